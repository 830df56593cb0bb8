use Rattle.std.proofs.Common.{ℕ, ◌-◌, ◌^◌, ◌<◌, Bool, ◌&&◌, eqb, leb, get_or, ap, subst, sym, ◌∙◌, rules, arith}
use Rattle.words.specs.Sets.{has}
use Rattle.words.proofs.Words.{comprehends}
use Rattle.tableau.specs.Working.{nowhere}
use Rattle.plan.specs.Listing.{noted_as}
use Rattle.plan.proofs.Filling.{has_raised, raised_fits, places_raised}
use Rattle.plan.proofs.working.Draft.propagated_of.Goals as goal

pub returns : goal.returns
returns c j =
    let d = c.args.self.now in
    let n = d.list.count in
    let first = c.entry_count.result in
    let places = c.collect-places in
    let p : ℕ → Bool = λ k. eqb (get_or d.list.noted k (noted_as nowhere)).origin c.args.i in
    let small : places.result < 2 ^ n = subst (λ w. w < 2 ^ n) (sym (places.ensures.value p (λ k b l e. search rules))) (comprehends n p).fits in
    ap (λ w. has w j) (raised_fits places.result n first small (omega (arith, d.narrow, c.entry_count.ensures)))
    ∙ has_raised places.result first j
    ∙ ap (λ b. leb first j && b) (places.ensures.members p (λ k b l e. search rules) (j - first))
    ∙ places_raised d c.args.i j first c.entry_count.ensures
