-- Obligations of a label, and the seed of a successor.
use Rattle.std.specs.Prelude.{ℕ, Bool, true, false, cond, not, ◌&&◌, Option, None, Some}
use Rattle.meaning.specs.Orders.{RoleBox}
use Rattle.meaning.specs.declared.Concept.TheVariants.{Nothing, Everything, Name, Not, And, Or, Restriction}
use Rattle.meaning.specs.declared.Quantifier.{Quantifier}
use Rattle.meaning.specs.declared.Quantifier.TheVariants.{Exists, Forall, NoneOf}
use Rattle.tableau.specs.declared.Label.{Label}
use Rattle.tableau.specs.declared.Entry.{Entry}
use Rattle.tableau.specs.declared.Entry.TheVariants.{Plain, Inclusion, Inclusions}
use Rattle.tableau.specs.declared.Demand.{Demand}
use Rattle.tableau.specs.Folds.{fold}
use Rattle.tableau.specs.Labels.{empty, in_label, put}
use Rattle.tableau.specs.Entries.{Table}

-- a signed restriction obliges to a successor (+ some, - every, - none); else it says what all successors are
abbrev pub obliges : Quantifier → Bool → Bool
obliges Exists s = s
obliges Forall s = not s
obliges NoneOf s = not s

-- the sign with which it speaks of its part
abbrev pub sign_of : Quantifier → Bool → Bool
sign_of Exists s = s
sign_of Forall s = s
sign_of NoneOf s = not s

-- the demand of a successor by r, in a (true) or outside it
abbrev pub wants : ℕ → Bool → ℕ → Option Demand
wants r s a = Some (record { role = r; sign = s; part = a })

-- what a signed entry obliges to, if to anything
abbrev pub obligation : Entry → Bool → Option Demand
obligation (Plain Nothing) s = None
obligation (Plain Everything) s = None
obligation (Plain (Name n)) s = None
obligation (Plain (Not a)) s = None
obligation (Plain (And a b)) s = None
obligation (Plain (Or a b)) s = None
obligation (Plain (Restriction q r a)) s = cond (obliges q s) (wants r (sign_of q s) a) None
obligation (Inclusion c d) s = None
obligation (Inclusions lo n) s = None

-- what entry i obliges a node with the label to
abbrev pub obliged_at : Table → Label → ℕ → Option Demand
obliged_at B l i = cond (in_label l true i) (obligation (B.entry i) true) (cond (in_label l false i) (obligation (B.entry i) false) None)

-- the role of a restriction; it is asked of restrictions alone
abbrev pub role_of : Entry → ℕ
role_of (Plain Nothing) = 0
role_of (Plain Everything) = 0
role_of (Plain (Name n)) = 0
role_of (Plain (Not a)) = 0
role_of (Plain (And a b)) = 0
role_of (Plain (Or a b)) = 0
role_of (Plain (Restriction q r a)) = r
role_of (Inclusion c d) = 0
role_of (Inclusions lo n) = 0

module _ (H : RoleBox) (B : Table) where
  -- entry j, signed s, is told to a successor by r, if it is a propagated restriction of i by a role above r
  unfoldable pub told_propagated : ℕ → Bool → ℕ → ℕ → Label → Label
  told_propagated r s i j acc = cond (B.propagates i j && H.below r (role_of (B.entry j))) (put s j acc) acc

  -- the restriction itself is told on, if its role t is transitive, else its propagated ones whose role is above r
  abbrev pub told_further : ℕ → Bool → ℕ → ℕ → Label → Label
  told_further r s i t acc = cond (H.transitive t) (put s i acc) (fold B.width (told_propagated r s i) acc)

  -- what the signed entry i tells a successor by r
  abbrev pub told_by_entry : ℕ → Bool → ℕ → Entry → Label → Label
  told_by_entry r s i (Plain Nothing) acc = acc
  told_by_entry r s i (Plain Everything) acc = acc
  told_by_entry r s i (Plain (Name n)) acc = acc
  told_by_entry r s i (Plain (Not a)) acc = acc
  told_by_entry r s i (Plain (And a b)) acc = acc
  told_by_entry r s i (Plain (Or a b)) acc = acc
  told_by_entry r s i (Plain (Restriction q t a)) acc = cond (not (obliges q s) && H.below r t) (told_further r s i t (put (sign_of q s) a acc)) acc
  told_by_entry r s i (Inclusion c d) acc = acc
  told_by_entry r s i (Inclusions lo n) acc = acc

  -- the same, if the label holds the signed entry
  abbrev pub tell : Label → ℕ → Bool → ℕ → Label → Label
  tell l r s i acc = cond (in_label l s i) (told_by_entry r s i (B.entry i) acc) acc

  -- the seed of a successor by r of a node labelled l: the part a with sign s, and what the restrictions of l tell
  unfoldable pub seed_of : Label → ℕ → Bool → ℕ → Label
  seed_of l r s a = fold B.width (λ i acc. tell l r true i (tell l r false i acc)) (put s a empty)
