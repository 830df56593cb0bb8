use Rattle.std.proofs.Common.{◌≡◌, ◌++◌, vec_items}
use Rattle.runs.specs.Runs.{history}
use Rattle.register.specs.Registers.{setup_of, classes_of}
use Rattle.listing.specs.Listings.{filings, lines_of}
use Rattle.listing.proofs.Filing.{lines_from}
use Rattle.listing.proofs.filed_lines.Given as goal

-- what is written and what is to come are the whole
abbrev pub invariant-entries : goal.invariant-entries
invariant-entries l =
    vec_items l.out ++ lines_from (setup_of l.register) (classes_of l.register) l.entry l.entries
    ≡ lines_of (history (setup_of l.initial.register) (classes_of l.initial.register) (filings l.entries))
