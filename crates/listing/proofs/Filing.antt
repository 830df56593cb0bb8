-- The lines of a run of filings, one filing after another.
use Rattle.std.proofs.Common.{◌≡◌, ℕ, suc, ◌+◌, ◌-◌, ◌<◌, ◌≤◌, List, ◌++◌, sym, ap, ◌∙◌, append_assoc, append-nil, add-one, arith}
use native.Mathlib.Nat.{sub-zero}
use Rattle.runs.specs.Setups.{Setup}
use Rattle.runs.specs.Steps.{file, step}
use Rattle.runs.specs.Runs.{history}
use Rattle.listing.specs.Listings.{lent_nodes, filings_from, filings, filed_line, lines_of}

-- the lines of the entries from i on, of n in all, on a register whose classes stand by the entries cs
abbrev pub lines_from : Setup → List ℕ → (i n : ℕ) → List ℕ
lines_from S cs i n = lines_of (history S cs (filings_from i (n - i)))

-- the lines from i on are that of i and, on the classes that stand then, those from i + 1 on
lines_step : (S : Setup) (cs : List ℕ) (i n : ℕ) → i < n
    → lines_from S cs i n ≡ filed_line i (step S cs (file i lent_nodes)).reply ++ lines_from S (step S cs (file i lent_nodes)).classes (i + 1) n
unfolding filings_from history lines_of
lines_step S cs i n l =
    let left : n - i ≡ suc (n - (i + 1)) = omega arith in
    ap (λ m. lines_of (history S cs (filings_from i m))) left
    ∙ ap (λ j. filed_line i (step S cs (file i lent_nodes)).reply ++ lines_of (history S (step S cs (file i lent_nodes)).classes (filings_from j (n - (i + 1))))) (sym (add-one i))

-- What is written and what is to come are the whole: at the start,
pub lines_start : (S : Setup) (cs : List ℕ) (n : ℕ) → lines_from S cs 0 n ≡ lines_of (history S cs (filings n))
lines_start S cs n = ap (λ m. lines_of (history S cs (filings_from 0 m))) (sub-zero n)

-- after the filing of entry i, the line of which was added,
pub lines_more : (S T : Setup) (cs ds : List ℕ) (i n : ℕ) (written more whole : List ℕ) → i < n
    → T ≡ S → ds ≡ (step S cs (file i lent_nodes)).classes → more ≡ written ++ filed_line i (step S cs (file i lent_nodes)).reply
    → written ++ lines_from S cs i n ≡ whole → more ++ lines_from T ds (i + 1) n ≡ whole
lines_more S T cs ds i n written more whole l setup classes added before =
    let line = filed_line i (step S cs (file i lent_nodes)).reply in
    let rest = lines_from S (step S cs (file i lent_nodes)).classes (i + 1) n in
    ap (λ U. more ++ lines_from U ds (i + 1) n) setup
    ∙ ap (λ es. more ++ lines_from S es (i + 1) n) classes
    ∙ ap (λ xs. xs ++ rest) added
    ∙ append_assoc written line rest
    ∙ ap (λ xs. written ++ xs) (sym (lines_step S cs i n l))
    ∙ before

-- and where no entry is left, when all is written
pub lines_end : (S : Setup) (cs : List ℕ) (i n : ℕ) (written whole : List ℕ) → n ≤ i → written ++ lines_from S cs i n ≡ whole → written ≡ whole
unfolding filings_from history lines_of
lines_end S cs i n written whole l before =
    let none : n - i ≡ 0 = omega arith in
    sym (append-nil written) ∙ ap (λ m. written ++ lines_of (history S cs (filings_from i m))) (sym none) ∙ before
