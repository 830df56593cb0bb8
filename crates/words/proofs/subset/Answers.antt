use Rattle.std.proofs.Common.{Bool, eqb, Decides, sym, ap, subst}
use Rattle.words.specs.Sets.{Within}
use Rattle.words.proofs.Words.{subset_to, subset_from}
use Rattle.words.proofs.subset.Goals as goal

pub returns : goal.returns
returns c =
    let a = c.args.a in
    let b = c.args.b in
    let is = ap (λ w. eqb w a) c.intersection.ensures.value in
    record {
      value = is;
      members = subst (λ (t : Bool). Decides t (Within a b)) (sym is) (subset_to a b, subset_from a b);
    }
