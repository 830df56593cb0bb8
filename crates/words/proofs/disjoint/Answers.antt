use Rattle.std.proofs.Common.{Bool, eqb, Decides, sym, ap, subst}
use Rattle.words.specs.Sets.{Disjoint}
use Rattle.words.proofs.Words.{disjoint_to, disjoint_from}
use Rattle.words.proofs.disjoint.Goals as goal

pub returns : goal.returns
returns c =
    let a = c.args.a in
    let b = c.args.b in
    let is = ap (λ w. eqb w 0) c.intersection.ensures.value in
    record {
      value = is;
      members = subst (λ (t : Bool). Decides t (Disjoint a b)) (sym is) (disjoint_to a b, disjoint_from a b);
    }
