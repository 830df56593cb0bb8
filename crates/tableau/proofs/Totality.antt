-- A world that keeps a book, with the universal role joining every pair, follows the hierarchy with that role and satisfies
-- *book* and *everywhere*; and the concept entries mean in it what they meant.
use Rattle.std.proofs.Common.{◌≡◌, ℕ, zero, suc, ◌+◌, ◌<◌, Bool, true, cond, not, eqb, sym, refl, ap, ◌∙◌, ⊎_elim, arith}
use Rattle.std.proofs.lemmas.Bool.{or_right, cond-true, cond-false, eq-eqb, ne_eqb}
use Rattle.meaning.specs.Worlds.{Interpretation, deep, holds}
use Rattle.meaning.specs.Books.{Book, KeepsInclusions, KeepsTransitivity, Keeps}
use Rattle.meaning.specs.Orders.{RoleBox}
use Rattle.meaning.specs.Universal.{universal_cases, with_universal}
use Rattle.meaning.proofs.Tests.{all_from}
use Rattle.meaning.proofs.Implying.{implies}
use Rattle.meaning.proofs.Meanings.{denotes_same}
use Rattle.tableau.specs.declared.Label.{Label}
use Rattle.tableau.specs.Working.{plain_of, book_entry, everywhere_entry, entry_of, rooted}
use Rattle.tableau.specs.Promises.{Opens, Satisfies, Seed}
use Rattle.tableau.proofs.Laws.{Follows}
use Rattle.tableau.proofs.Meanings.{means, Meaning, deep_entry, holds_entry, entries_mean}
use Rattle.tableau.proofs.Tables.{entry_concept, rule_entry_at, entry_book, entry_everywhere, transitive_cases, rooted_cases}
use Rattle.tableau.proofs.Agreeing.{holds_agree}
use Rattle.tableau.proofs.Tabling.{lower}
use Rattle.tableau.proofs.Failing.{Sat}

-- the role n joins every pair besides
abbrev pub with_total : ℕ → Interpretation → Interpretation
with_total n W = record { size = W.size; bears = W.bears; joins = λ r x y. cond (eqb r n) true (W.joins r x y) }

module _ (H : RoleBox) (K : Book) (P : Opens H K) where
  -- a concept entry means as a working entry what it means in the book
  deep_concept : (W : Interpretation) (k i x : ℕ) → i < K.entries → deep_entry W (entry_of H K) k i x ≡ deep W K.concept k i x
  unfolding deep_entry deep
  deep_concept W zero i x l = refl
  deep_concept W (suc k) i x l =
      ap (λ e. means W e (deep_entry W (entry_of H K) k) x) (entry_concept H K i l)
      ∙ denotes_same W i (K.concept i) (P.sound.lower i) (deep_entry W (entry_of H K) k) (deep W K.concept k)
      (λ a y m. deep_concept W k a y (omega arith)) x

  pub concept_same : (W : Interpretation) (i x : ℕ) → i < K.entries → holds_entry W (entry_of H K) i x ≡ holds W K.concept i x
  unfolding holds_entry holds
  concept_same W i x l = deep_concept W (suc i) i x l

  module _ (W : Interpretation) where
    -- the world with the universal role
    abbrev pub total : Interpretation
    total = with_total H.count W

    -- the meaning of the working entries in it
    abbrev pub worked : ℕ → ℕ → Bool
    worked = holds_entry total (entry_of H K)

    -- it joins by other roles what the world joins, and all by its own
    other_role : (r x y : ℕ) → r < H.count → total.joins r x y ≡ W.joins r x y
    other_role r x y l = cond-false (eqb r H.count) true (W.joins r x y) (ne_eqb r H.count (omega arith))

    total_role : (x y : ℕ) → total.joins H.count x y ≡ true
    total_role x y = cond-true (eqb H.count H.count) true (W.joins H.count x y) (eq-eqb H.count H.count refl)

    -- a concept entry, which is by other roles, means in it what it meant
    total_same : (i x : ℕ) → i < K.entries → holds total K.concept i x ≡ holds W K.concept i x
    total_same = holds_agree H K P W total.joins other_role

    -- the entries mean what they say
    pub worked_means : Meaning total (entry_of H K) worked
    worked_means = entries_mean total (entry_of H K) (lower H K P)

    -- a concept entry means what it meant in the world
    pub worked_concept : (i x : ℕ) → i < K.entries → worked i x ≡ holds W K.concept i x
    worked_concept i x l = concept_same total i x l ∙ total_same i x l

    module _ (Kp : Keeps H K W) where
      -- its roles are as the hierarchy with the universal role says
      pub follows : Follows (with_universal H) total
      follows = record { inclusions = inclusions; transitivity = transitivity }
        where
          inclusions : KeepsInclusions (with_universal H).below total
          inclusions r s e x y l m j = ⊎_elim
              (λ top. ap (λ t. total.joins t x y) top.1 ∙ total_role x y)
              (λ h.
              let w = P.ordered.law.within r s h in
              other_role s x y w.1 ∙ Kp.inclusions r s h x y l m (sym (other_role r x y w.0) ∙ j))
              (universal_cases H.count H.below r s e)

          transitivity : KeepsTransitivity (with_universal H).transitive total
          transitivity r e x y z l m o j k = ⊎_elim
              (λ (top : r ≡ H.count). ap (λ t. total.joins t x z) top ∙ total_role x z)
              (λ h.
              let w = P.ordered.inside r h in
              other_role r x z w ∙ Kp.transitivity r h x y z l m o (sym (other_role r x y w) ∙ j) (sym (other_role r y z w) ∙ k))
              (transitive_cases H P.ordered P.few r e)

      -- every rule, book and everywhere hold of every individual
      rule_holds : (k x : ℕ) → k < K.rules → x < W.size → worked (plain_of H K + k) x ≡ true
      rule_holds k x l m =
          let c = (K.rule k).premise in
          let d = (K.rule k).conclusion in
          worked_means (plain_of H K + k) x
          ∙ ap (λ e. means total e worked x) (rule_entry_at H K k l)
          ∙ implies (worked c x) (worked d x)
          (λ h. worked_concept d x (P.sound.conclusions_in k l) ∙ Kp.rules k l x m (sym (worked_concept c x (P.sound.premises_in k l)) ∙ h))

      book_holds : (x : ℕ) → x < W.size → worked (book_entry H K) x ≡ true
      book_holds x m =
          worked_means (book_entry H K) x
          ∙ ap (λ e. means total e worked x) (entry_book H K)
          ∙ all_from K.rules _ (λ k l. rule_holds k x l m)

      everywhere_holds : (x : ℕ) → x < W.size → worked (everywhere_entry H K) x ≡ true
      everywhere_holds x m =
          worked_means (everywhere_entry H K) x
          ∙ ap (λ e. means total e worked x) (entry_everywhere H K)
          ∙ all_from W.size _ (λ y l. or_right (not (total.joins H.count x y)) _ (book_holds y l))

      -- an individual that satisfies a seed satisfies the root seed
      pub root_satisfied : (s : Label) → Seed K s → (x : ℕ) → x < W.size → Satisfies K W x s → Sat worked x (rooted H K s)
      root_satisfied s seed x m sat t i e = ⊎_elim
          (λ ruled. ⊎_elim
          (λ here. ap (λ j. worked j x) here ∙ book_holds x m)
          (λ here. ap (λ j. worked j x) here ∙ everywhere_holds x m)
          ruled.1 ∙ sym ruled.0)
          (λ g. worked_concept i x (seed t i g) ∙ sat t i g)
          (rooted_cases H K s t i e)
