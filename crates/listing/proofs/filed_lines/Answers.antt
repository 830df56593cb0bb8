use Rattle.std.proofs.Common.{◌++◌, vec_items, ap, ◌∙◌}
use Rattle.runs.specs.Runs.{history}
use Rattle.register.specs.Registers.{setup_of, classes_of}
use Rattle.listing.specs.Listings.{filings, lines_of}
use Rattle.listing.proofs.Filing.{lines_from, lines_start, lines_more, lines_end}
use Rattle.listing.proofs.filed_lines.Goals as goal

pub entries-init : goal.entries-init
entries-init c =
    let g = c.args.register in
    ap (λ xs. xs ++ lines_from (setup_of g) (classes_of g) 0 c.args.entries) c.new-out.ensures.items
    ∙ lines_start (setup_of g) (classes_of g) c.args.entries

pub entries-preserved : goal.entries-preserved
entries-preserved c =
    let g = c.args.register in
    let before = c.entries.register in
    let after = c.add_line.new.register in
    let filed = c.in_ok-add_line.ensures in
    lines_more (setup_of before) (setup_of after) (classes_of before) (classes_of after) c.entries.entry c.args.entries
    (vec_items c.entries.out) (vec_items c.add_line.new.out) (lines_of (history (setup_of g) (classes_of g) (filings c.args.entries)))
    c.entries-test.true filed.setup filed.classes filed.line c.entries.invariant

pub returns : goal.returns
returns c =
    let g = c.args.register in
    let last = c.entries.register in
    lines_end (setup_of last) (classes_of last) c.entries.entry c.args.entries (vec_items c.entries.out)
    (lines_of (history (setup_of g) (classes_of g) (filings c.args.entries))) c.entries-test.false c.entries.invariant
