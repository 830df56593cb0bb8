use Rattle.std.proofs.Common.{◌≡◌, ℕ, ◌+◌, ◌-◌, ◌*◌, true, false, length, get_or, take, drop, ap, ◌∙◌, arith, length-drop, rules}
use Rattle.std.proofs.lemmas.List.{get_or-take, get_or-drop, length-take-le}
use Rattle.std.proofs.lemmas.Iterator.{YieldsList-from_slice, IsFirst-from_position}
use Rattle.book.proofs.Positions.{first_where}
use Rattle.sheet.specs.Sheets.{strays}
use Rattle.sheet.proofs.sheet.first_stray.Goals as goal

pub returns-clause-value : goal.returns-clause-value
returns-clause-value c =
    let ws = c.args.words.now in
    let m = get_or ws 0 0 in
    let n = 64 + c.args.roles * m in
    let p = λ (w : ℕ). strays m w in
    let last = (65 + c.args.roles * m) - 1 in
    let xs = take last (drop 1 ws) in
    let long : length xs ≡ n = length-take-le last (drop 1 ws) (omega (arith, length-drop 1 ws)) ∙ omega arith in
    first_where xs n 0 p (λ k. strays m (get_or ws (k + 1) 0)) long
    (λ k l. ap p (get_or-take last (drop 1 ws) k 0 (omega arith) ∙ get_or-drop 1 ws k 0 ∙ ap (λ i. get_or ws i 0) (omega arith))) _
    (IsFirst-from_position _ _ _ (λ x. p x ≡ true) (λ x. p x ≡ false) c.position.ensures.ran (YieldsList-from_slice xs cc) (λ x q e. search rules) (λ x q e. search rules))
