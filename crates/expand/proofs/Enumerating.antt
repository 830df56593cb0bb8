-- One step of the enumeration: how the first expansion by the entries below k is found among those by fewer entries.
use Rattle.std.proofs.Common.{◌≡◌, ℕ, zero, suc, ◌+◌, ◌-◌, ◌<◌, ◌≤◌, false, [], ◌∷◌, ◌++◌, sym, ap, ◌∙◌, ap₂, arith}
use Rattle.std.proofs.lemmas.Bool.{cond-false}
use Rattle.tableau.specs.declared.Label.{Label}
use Rattle.tableau.specs.Entries.{Table, LowerEntry}
use Rattle.tableau.specs.Expansions.{One, Two, clash, taken, expand}
use Rattle.expand.specs.Choices.{weight, fork, from, FirstFrom}
use Rattle.expand.proofs.Choosing.{weight_none, weight_next, one_first, from_past}

-- all entries are taken
pub end_here : (B : Table) (k : ℕ) (l : Label) (c : ℕ) → k ≡ 0 → c ≡ 0 → clash B l ≡ false → LowerEntry 0 (B.entry 0) → FirstFrom B k l c (l, 0)
unfolding from expand
end_here B k l c z e calm low =
    let a : from B 0 l 0 ≡ l ∷ [] = cond-false (clash B l) [] (l ∷ []) calm in
    let b : from B 0 l 1 ≡ [] = from_past B low 0 l 1 (omega (arith, weight_none)) in
    rw (z, e) (a ∙ ap (λ ls. l ∷ ls) (sym b), omega (arith, weight_none))

pub end_none : (B : Table) (k : ℕ) (l : Label) (c : ℕ) → k ≡ 0 → 0 < c → LowerEntry 0 (B.entry 0) → from B k l c ≡ []
end_none B k l c z h low = rw z (from_past B low 0 l c (omega (arith, weight_none)))

-- from its weight on the first alternative has none
pub past_first : (B : Table) (j : ℕ) → LowerEntry 0 (B.entry 0) → (a : Label) (v : ℕ) → v ≡ weight j → (c : ℕ) → v ≤ c → from B j a c ≡ []
past_first B j low a v is c h = from_past B low j a c (omega arith)

module _ (B : Table) (k j : ℕ) (l : Label) (e : k ≡ suc j) where
  -- entry j makes one label of l
  module _ (m : Label) (t : taken (B.entry j) j l ≡ One m) where
    pub one_from : (c : ℕ) → from B k l c ≡ from B j m c
    unfolding from fork
    one_from c = ap (λ n. from B n l c) e ∙ ap (fork (λ n. from B j n c) (λ n. from B j n (c - weight j))) t

  -- entry j makes two
  module _ (low : LowerEntry 0 (B.entry 0)) (a b : Label) (t : taken (B.entry j) j l ≡ Two a b) where
    two_from : (c : ℕ) → from B k l c ≡ from B j a c ++ from B j b (c - weight j)
    unfolding from fork
    two_from c = ap (λ n. from B n l c) e ∙ ap (fork (λ n. from B j n c) (λ n. from B j n (c - weight j))) t

    two_weight : weight k ≡ weight j + weight j
    two_weight = ap weight e ∙ go j t
      where
        go : (i : ℕ) → taken (B.entry i) i l ≡ Two a b → weight (suc i) ≡ weight i + weight i
        go zero t = let o = one_first (B.entry 0) l low in let h = o.1 in absurd (let z : ◌≡◌ {A = ℕ} 0 1 = cc in omega arith)
        go (suc i) t = weight_next i

    -- v is what the second alternative adds to a choice word
    module _ (v : ℕ) (is : v ≡ weight j) where
      pub two_none : (c d : ℕ) → d ≡ c - v → from B j a c ≡ [] → from B j b d ≡ [] → from B k l c ≡ []
      two_none c d z p q =
          let f : c - weight j ≡ d = omega arith in
          two_from c ∙ ap₂ (λ xs ys. xs ++ ys) p (ap (from B j b) f ∙ q)

      -- the first alternative has one
      pub two_first : (c : ℕ) (p : Label × ℕ) → c < v → FirstFrom B j a c p → FirstFrom B k l c p
      two_first c p lt h =
          let w = two_weight in
          let f : c - weight j ≡ (p.1 + 1) - weight j = omega (arith, h.1) in (
            two_from c ∙ ap₂ (λ xs ys. xs ++ ys) h.0 (ap (from B j b) f) ∙ ap (λ ls. p.0 ∷ ls) (sym (two_from (p.1 + 1))),
            omega (arith, h.1),
          )

      -- the second has one, and the first has none
      pub two_second : (c d : ℕ) → d ≡ c - v → from B j a c ≡ [] → (m : Label) (q : ℕ) → FirstFrom B j b d (m, q) → FirstFrom B k l c (m, q + v)
      two_second c d z p m q h =
          let w = two_weight in
          let n = q + v + 1 in
          let f : c - weight j ≡ d = omega arith in
          let g : n - weight j ≡ q + 1 = omega arith in
          let past : from B j a n ≡ [] = from_past B low j a n (omega arith) in
          let after : from B k l n ≡ from B j b (q + 1) = two_from n ∙ ap₂ (λ xs ys. xs ++ ys) past (ap (from B j b) g) in (
            two_from c ∙ ap₂ (λ xs ys. xs ++ ys) p (ap (from B j b) f ∙ h.0) ∙ ap (λ ls. m ∷ ls) (sym after),
            omega (arith, h.1),
          )
