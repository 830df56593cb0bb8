-- From a book to the run of its listing.
use Rattle.std.proofs.Common.{◌≡◌, ℕ, List, [], ◌∷◌, map, refl, ap, ◌∙◌, subst, arith}
use Rattle.denial.specs.Denials.{granted, denied, and_then}
use Rattle.denial.specs.declared.Report.{Report}
use Rattle.book.specs.Sections.{Sections, says}
use Rattle.roles.specs.Hierarchies.{roles_of}
use Rattle.plan.specs.Building.{verdict}
use Rattle.lines.specs.Listings.{line_of_book}
use Rattle.runs.specs.Setups.{Setup, setup}
use Rattle.runs.specs.Steps.{Call, step}
use Rattle.runs.specs.Runs.{Event, Run, history, Right}
use Rattle.runs.proofs.Rightness.{runs_by_calls}
use Rattle.listing.specs.Listings.{filings, lines_of, filing_run, opened_run, listed, RightLines}

-- the calls of the run that calls make
history_calls : (S : Setup) (cs : List ℕ) (calls : List Call) → map (λ (e : Event). e.call) (history S cs calls) ≡ calls
unfolding history
history_calls S cs [] = refl
history_calls S cs (c ∷ rest) = ap (λ ds. c ∷ ds) (history_calls S (step S cs c).classes rest)

module _ (s : Sections) where
  -- a register that was opened is fresh, and has the book's setup
  module _ (S : Setup) (cs : List ℕ) (n : ℕ) (setup-is : S ≡ setup (roles_of s) (says s)) (fresh : cs ≡ []) (all : n ≡ (says s).entries) where
    -- so filing all entries on it is the run of the book
    run_same : history S cs (filings n) ≡ filing_run s
    run_same =
        ap (λ T. history T cs (filings n)) setup-is
        ∙ ap (λ ds. history (setup (roles_of s) (says s)) ds (filings n)) fresh
        ∙ ap (λ m. history (setup (roles_of s) (says s)) [] (filings m)) all

    pub opened_lines : granted tt ≡ verdict (roles_of s) (says s) → lines_of (history S cs (filings n)) ≡ listed (opened_run s)
    opened_lines opened = ap lines_of run_same ∙ ap (λ a. listed (and_then a (λ u. granted (filing_run s)))) opened

    pub opened_right : ((run : List Event) → Run S cs run → Right (roles_of s) (says s) run) → (lines : List ℕ) → lines ≡ lines_of (history S cs (filings n))
        → RightLines (roles_of s) (says s) lines
    opened_right right lines e = record {
      run = history S cs (filings n);
      runs = subst (λ T. Run T [] (history S cs (filings n))) setup-is
          (subst (λ ds. Run S ds (history S cs (filings n))) fresh (runs_by_calls.history_runs S cs (filings n)));
      calls = history_calls S cs (filings n) ∙ ap filings all;
      lines_are = e;
      right = right (history S cs (filings n)) (runs_by_calls.history_runs S cs (filings n));
    }

  -- no register is opened
  module _ (r : Report) (refused : denied r ≡ verdict (roles_of s) (says s)) where
    pub refused_line : line_of_book r.number ≡ listed (opened_run s)
    refused_line = ap (λ a. listed (and_then a (λ u. granted (filing_run s)))) refused

    pub refused_never : verdict (roles_of s) (says s) ≡ granted tt → ⊥
    refused_never opened = let e : denied r ≡ granted tt = refused ∙ opened in let z : ◌≡◌ {A = ℕ} 0 1 = cc in omega arith
