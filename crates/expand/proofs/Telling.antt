-- The clashes of a label as one word.
use Rattle.std.proofs.Common.{◌≡◌, ℕ, Bool, true, false, not, ◌&&◌, ◌||◌, eqb, ltb, refl}
use Rattle.words.specs.Sets.{has}
use Rattle.tableau.specs.declared.Label.{Label}
use Rattle.tableau.specs.Entries.{Table}
use Rattle.tableau.specs.Expansions.{clash_at, clash}
use Rattle.tableau.proofs.Sets.{some_member}

-- below the width w: both signs, + of x, or - of y
pub clash_bits : (w p m x y : Bool) → (((p && m) && w) || ((p && (w && x)) || (m && (w && y)))) ≡ (w && ((p && m || p && x) || m && y))
clash_bits true true true x y = refl
clash_bits true true false true y = refl
clash_bits true true false false y = refl
clash_bits true false true x y = refl
clash_bits true false false x y = refl
clash_bits false true true x y = refl
clash_bits false true false x y = refl
clash_bits false false true x y = refl
clash_bits false false false x y = refl

-- the word of the clashes of a label is not 0 exactly if it clashes
pub clash_word : (B : Table) (l : Label) (w : ℕ) → ((i : ℕ) → has w i ≡ (ltb i B.width && clash_at (B.entry i) l i)) → not (eqb w 0) ≡ clash B l
unfolding clash
clash_word B l w h = some_member w B.width (λ i. clash_at (B.entry i) l i) h
