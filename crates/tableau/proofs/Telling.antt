-- What the seed of a successor has: what its part alone has and stays as the label's restrictions tell what they tell; and
-- what they tell is in it.
use Rattle.std.proofs.Common.{◌≡◌, ℕ, ◌<◌, Bool, true, false, not, ◌&&◌, sym, refl, subst}
use Rattle.std.proofs.lemmas.Bool.{and_parts, and_from, not-true, not_from_false, cond_both}
use Rattle.meaning.specs.Orders.{RoleBox}
use Rattle.meaning.specs.declared.Concept.TheVariants.{Nothing, Everything, Name, Not, And, Or, Restriction}
use Rattle.meaning.specs.declared.Quantifier.{Quantifier}
use Rattle.tableau.specs.declared.Label.{Label}
use Rattle.tableau.specs.declared.Entry.{Entry}
use Rattle.tableau.specs.declared.Entry.TheVariants.{Plain, Inclusion, Inclusions}
use Rattle.tableau.specs.Folds.{fold}
use Rattle.tableau.specs.Labels.{empty, in_label, put}
use Rattle.tableau.specs.Entries.{Table}
use Rattle.tableau.specs.Seeds.{obliges, sign_of, role_of, told_propagated, told_further, told_by_entry, tell, seed_of}
use Rattle.tableau.proofs.Tests.{first_way, second_way}
use Rattle.tableau.proofs.Folding.{fold_keeps, fold_gives}
use Rattle.tableau.proofs.Labelling.{put_in, put_keeps}

module _ (H : RoleBox) (B : Table) (l : Label) (r : ℕ) where
  -- the label holds restriction i, signed s, by a role t above r, which says what all successors are
  pub record Restricting (s : Bool) (i : ℕ) (q : Quantifier) (t a : ℕ) : Type 0 where
    pub low : i < B.width
    pub held : in_label l s i ≡ true
    pub is : B.entry i ≡ Plain (Restriction q t a)
    pub every : obliges q s ≡ false
    pub above : H.below r t ≡ true

  -- P stays as a successor by r is told the part of a restriction, the restriction itself, and those that it propagates
  pub record Stays (P : Label → Type 0) : Type 0 where
    pub part : (s : Bool) (i : ℕ) (q : Quantifier) (t a : ℕ) → Restricting s i q t a → (m : Label) → P m → P (put (sign_of q s) a m)
    pub itself : (s : Bool) (i : ℕ) (q : Quantifier) (t a : ℕ) → Restricting s i q t a → H.transitive t ≡ true → (m : Label) → P m → P (put s i m)
    pub propagated : (s : Bool) (i : ℕ) (q : Quantifier) (t a : ℕ) → Restricting s i q t a
        → (j : ℕ) → j < B.width → B.propagates i j ≡ true → H.below r (role_of (B.entry j)) ≡ true → (m : Label) → P m → P (put s j m)

  module _ (P : Label → Type 0) (stays : Stays P) where
    -- what stays, stays through each part of the telling
    propagated_stays : (s : Bool) (i : ℕ) (q : Quantifier) (t a : ℕ) → Restricting s i q t a → (j : ℕ) (m : Label) → j < B.width → P m → P (told_propagated H B r s i j m)
    unfolding told_propagated
    propagated_stays s i q t a c j m w p = cond_both (B.propagates i j && H.below r (role_of (B.entry j))) (put s j m) m P
        (λ e. let b = and_parts (B.propagates i j) (H.below r (role_of (B.entry j))) e in stays.propagated s i q t a c j w b.0 b.1 m p)
        (λ e. p)

    on_stays : (s : Bool) (i : ℕ) (q : Quantifier) (t a : ℕ) → Restricting s i q t a → (m : Label) → P m → P (told_further H B r s i t m)
    on_stays s i q t a c m p = cond_both (H.transitive t) (put s i m) (fold B.width (told_propagated H B r s i) m) P
        (λ e. stays.itself s i q t a c e m p)
        (λ e. fold_keeps P B.width (told_propagated H B r s i) (λ j n w. propagated_stays s i q t a c j n w) m p)

    entry_stays : (s : Bool) (i : ℕ) (e : Entry) → i < B.width → in_label l s i ≡ true → B.entry i ≡ e → (m : Label) → P m → P (told_by_entry H B r s i e m)
    entry_stays s i (Plain Nothing) w h is m p = p
    entry_stays s i (Plain Everything) w h is m p = p
    entry_stays s i (Plain (Name n)) w h is m p = p
    entry_stays s i (Plain (Not a)) w h is m p = p
    entry_stays s i (Plain (And a b)) w h is m p = p
    entry_stays s i (Plain (Or a b)) w h is m p = p
    entry_stays s i (Plain (Restriction q t a)) w h is m p =
        cond_both (not (obliges q s) && H.below r t) (told_further H B r s i t (put (sign_of q s) a m)) m P
        (λ e.
        let b = and_parts (not (obliges q s)) (H.below r t) e in
        let c : Restricting s i q t a = record { low = w; held = h; is = is; every = not-true (obliges q s) b.0; above = b.1 } in
        on_stays s i q t a c (put (sign_of q s) a m) (stays.part s i q t a c m p))
        (λ e. p)
    entry_stays s i (Inclusion c d) w h is m p = p
    entry_stays s i (Inclusions lo n) w h is m p = p

    tell_stays : (s : Bool) (i : ℕ) → i < B.width → (m : Label) → P m → P (tell H B l r s i m)
    tell_stays s i w m p =
        cond_both (in_label l s i) (told_by_entry H B r s i (B.entry i) m) m P (λ h. entry_stays s i (B.entry i) w h refl m p) (λ h. p)

    both_stay : (i : ℕ) (m : Label) → i < B.width → P m → P (tell H B l r true i (tell H B l r false i m))
    both_stay i m w p = tell_stays true i w (tell H B l r false i m) (tell_stays false i w m p)

    -- and so through all of it
    pub seed_stays : (s : Bool) (a : ℕ) → P (put s a empty) → P (seed_of H B l r s a)
    unfolding seed_of
    seed_stays s a p = fold_keeps P B.width (λ i m. tell H B l r true i (tell H B l r false i m)) both_stay (put s a empty) p

-- the label holds entry i with sign s
abbrev Has : Bool → ℕ → Label → Type 0
Has s i l = in_label l s i ≡ true

module _ (H : RoleBox) (B : Table) (l : Label) (r : ℕ) where
  -- no telling takes anything away
  has_stays : (t : Bool) (k : ℕ) → Stays H B l r (Has t k)
  has_stays t k = record {
    part = λ s i q u a c m h. put_keeps (sign_of q s) a m t k h;
    itself = λ s i q u a c e m h. put_keeps s i m t k h;
    propagated = λ s i q u a c j w e d m h. put_keeps s j m t k h;
  }

  -- the part
  pub seed_part : (s : Bool) (a : ℕ) → in_label (seed_of H B l r s a) s a ≡ true
  seed_part s a = seed_stays H B l r (Has s a) (has_stays s a) s a (put_in s a empty)

  module _ (s : Bool) (a : ℕ) (u : Bool) (i : ℕ) (q : Quantifier) (t b : ℕ) (c : Restricting H B l r u i q t b) where
    module _ (v : Bool) (k : ℕ) (gives : (m : Label) → Has v k (told_further H B r u i t (put (sign_of q u) b m))) where
      -- what a restriction tells in any case is in the seed
      told : (m : Label) → Has v k (tell H B l r u i m)
      told m =
          let Q : Entry → Type 0 = λ z. Has v k (told_by_entry H B r u i z m) in
          first_way (Has v k) (in_label l u i) (told_by_entry H B r u i (B.entry i) m) m c.held
          (subst Q (sym c.is)
          (first_way (Has v k) (not (obliges q u) && H.below r t) (told_further H B r u i t (put (sign_of q u) b m)) m
          (and_from (not (obliges q u)) (H.below r t) (not_from_false (obliges q u) c.every) c.above) (gives m)))

      seed_gives : Has v k (seed_of H B l r s a)
      unfolding seed_of
      seed_gives = fold_gives (Has v k) B.width i (λ i m. tell H B l r true i (tell H B l r false i m)) c.low (go u told)
          (both_stay H B l r (Has v k) (has_stays v k)) (put s a empty)
        where
          go : (u : Bool) → ((m : Label) → Has v k (tell H B l r u i m)) → (m : Label) → Has v k (tell H B l r true i (tell H B l r false i m))
          go true f m = f (tell H B l r false i m)
          go false f m = tell_stays H B l r (Has v k) (has_stays v k) true i c.low (tell H B l r false i m) (f m)

    -- what a restriction of the label says of all successors
    pub seed_told : in_label (seed_of H B l r s a) (sign_of q u) b ≡ true
    seed_told = seed_gives (sign_of q u) b
        (λ m. on_stays H B l r (Has (sign_of q u) b) (has_stays (sign_of q u) b) u i q t b c (put (sign_of q u) b m) (put_in (sign_of q u) b m))

    -- the restriction itself, by a transitive role
    pub seed_travels : H.transitive t ≡ true → in_label (seed_of H B l r s a) u i ≡ true
    seed_travels on = seed_gives u i
        (λ m. first_way (Has u i) (H.transitive t) (put u i (put (sign_of q u) b m)) (fold B.width (told_propagated H B r u i) (put (sign_of q u) b m)) on
        (put_in u i (put (sign_of q u) b m)))

    -- a restriction propagated by a role above r
    pub seed_propagates : H.transitive t ≡ false → (j : ℕ) → j < B.width → B.propagates i j ≡ true → H.below r (role_of (B.entry j)) ≡ true
        → in_label (seed_of H B l r s a) u j ≡ true
    unfolding told_propagated
    seed_propagates off j w g d = seed_gives u j
        (λ m. second_way (Has u j) (H.transitive t) (put u i (put (sign_of q u) b m)) (fold B.width (told_propagated H B r u i) (put (sign_of q u) b m)) off
        (fold_gives (Has u j) B.width j (told_propagated H B r u i) w
        (λ n. first_way (Has u j) (B.propagates i j && H.below r (role_of (B.entry j))) (put u j n) n
        (and_from (B.propagates i j) (H.below r (role_of (B.entry j))) g d) (put_in u j n))
        (λ k n v. propagated_stays H B l r (Has u j) (has_stays u j) u i q t b c k n v)
        (put (sign_of q u) b m)))
