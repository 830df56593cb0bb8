-- Words that are written over one after another with the words of a world.
use Rattle.std.proofs.Common.{◌≡◌, ℕ, zero, suc, ◌+◌, ◌-◌, ◌*◌, ◌/◌, ◌%◌, ◌^◌, ◌<◌, ◌≤◌, eqb, ltb, List, [], ◌∷◌, ◌++◌, length, get_or, take, drop, set, sym, refl, ap, ◌∙◌, ⊎_elim, add-one, add-mul, ◌≢◌, length-set, get_or-set_same, get_or-set_other, arith}
use Rattle.std.proofs.lemmas.Nat.{div-mul-add, mod-mul-add, mul-le}
use Rattle.std.proofs.lemmas.List.{append_assoc, length_push, length-append, length-drop, get_or_push, get_or_append_left, get_or-append_right, drop_more, take_at, drop-drop, drop_at, set_at}
use Rattle.std.proofs.lemmas.Bool.{cases_eq, cases_lt, lt-ltb, le-ltb, ne_eqb, eqb-true, cond-true, cond-false, cond_both}
use Rattle.std.proofs.lemmas.Grind.{same_number_lists}
use borrow.Rule.Slice.PartMut.{put_mid}
use Rattle.words.specs.Sets.{set_of}
use Rattle.meaning.specs.Worlds.{Interpretation}
use Rattle.sheet.proofs.Sets.{set_fits}
use Rattle.drawing.specs.Drawings.{word_at, words_of}

-- the words with the first k written over by those of the world
abbrev pub overlaid : Interpretation → ℕ → List ℕ → List ℕ
overlaid W k words = words_of W k ++ drop k words

-- word 0 is the number of individuals
pub word_size : (W : Interpretation) → word_at W 0 ≡ W.size
unfolding word_at
word_size W = refl

-- each word after it is a set of individuals
pub word_fits : (W : Interpretation) (k : ℕ) → 0 < k → word_at W k < 2 ^ W.size
unfolding word_at
word_fits W k l =
    cond_both (eqb k 0) _ _ (λ w. w < 2 ^ W.size)
    (λ e. absurd (omega (arith, eqb-true k 0 e)))
    (λ _. cond_both (ltb k 65) _ _ (λ w. w < 2 ^ W.size) (λ _. set_fits W.size _) (λ _. set_fits W.size _))

-- the word of a name
pub word_name : (W : Interpretation) (n : ℕ) → n < 64 → word_at W (1 + n) ≡ set_of W.size (λ x. W.bears x n)
unfolding word_at
word_name W n l =
    let k : 1 + n - 1 ≡ n = omega arith in
    cond-false _ _ _ (ne_eqb (1 + n) 0 (λ e. omega arith)) ∙ cond-true _ _ _ (lt-ltb (1 + n) 65 (omega arith))
    ∙ ap (λ n. set_of W.size (λ x. W.bears x n)) k

-- the word of a role's row: its place counts whole roles, then individuals
pub word_row : (W : Interpretation) (r x : ℕ) → x < W.size → word_at W (65 + r * W.size + x) ≡ set_of W.size (λ y. W.joins r x y)
unfolding word_at
word_row W r x l =
    let m = W.size in
    let k : 65 + r * m + x - 65 ≡ r * m + x = omega arith in
    cond-false _ _ _ (ne_eqb (65 + r * m + x) 0 (λ e. omega arith)) ∙ cond-false _ _ _ (le-ltb (65 + r * m + x) 65 (omega arith))
    ∙ ap (λ i. set_of m (λ y. W.joins (i / m) (i % m) y)) k
    ∙ ap (λ q. set_of m (λ y. W.joins q ((r * m + x) % m) y)) (div-mul-add r m x l)
    ∙ ap (λ q. set_of m (λ y. W.joins r q y)) (mod-mul-add r m x l)

-- the first n words are n
pub length_words : (W : Interpretation) (n : ℕ) → length (words_of W n) ≡ n
unfolding words_of
length_words W zero = refl
length_words W (suc n) = let e = length_words W n in length_push (words_of W n) (word_at W n) ∙ omega arith

-- and stand in their order
pub word_is : (W : Interpretation) (n k : ℕ) → k < n → get_or (words_of W n) k 0 ≡ word_at W k
unfolding words_of
word_is W zero k l = absurd (omega arith)
word_is W (suc n) k l = let len = length_words W n in ⊎_elim
    (λ (same : k ≡ n). rw same (get_or_push (words_of W n) (word_at W n) 0 n len))
    (λ other. get_or_append_left (words_of W n) _ 0 k (omega arith) ∙ word_is W n k (omega arith))
    (cases_eq k n)

-- nothing is written over at first
pub overlaid_none : (W : Interpretation) (words : List ℕ) → words ≡ overlaid W 0 words
unfolding words_of
overlaid_none W words = refl

-- the next word of the world, written in its place
pub overlaid_more : (W : Interpretation) (k n w : ℕ) (words now : List ℕ) → k < length words → k + 1 ≡ n → now ≡ overlaid W k words
    → w ≡ word_at W k → set now k w ≡ overlaid W n words
unfolding words_of
overlaid_more W k n w words now l next e f =
    ap (λ ws. set ws k w) (e ∙ ap (λ ws. words_of W k ++ ws) (drop_more words k 0 l))
    ∙ set_at (words_of W k) (get_or words k 0) (drop (k + 1) words) w k (length_words W k)
    ∙ ap (λ v. words_of W k ++ v ∷ drop (k + 1) words) f
    ∙ sym (append_assoc (words_of W k) (word_at W k ∷ []) (drop (k + 1) words))
    ∙ ap (λ i. words_of W i ++ drop (k + 1) words) (sym (add-one k))
    ∙ ap (λ i. overlaid W i words) next

-- the number of individuals, written at first
pub overlaid_first : (W : Interpretation) (m : ℕ) (words : List ℕ) → 0 < length words → m ≡ W.size → set words 0 m ≡ overlaid W 1 words
overlaid_first W m words l e = overlaid_more W 0 1 m words words l refl (overlaid_none W words) (e ∙ sym (word_size W))

-- a part of so many words, the first x of which are the words of the world from the place `at` on
pub record Written (W : Interpretation) (at many x : ℕ) (part : List ℕ) : Type 0 where
  pub long : length part ≡ many
  pub known : (k : ℕ) → k < x → get_or part k 0 ≡ word_at W (at + k)

-- the next word of the part
pub written_more : (W : Interpretation) (at many x w : ℕ) (part : List ℕ) → x < many → Written W at many x part → w ≡ word_at W (at + x)
    → Written W at many (x + 1) (set part x w)
written_more W at many x w part l f e =
    let room : x < length part = omega (arith, f.long) in
    record {
      long = length-set part x w ∙ f.long;
      known = λ k u. ⊎_elim
          (λ (same : k ≡ x). rw same (rw get_or-set_same e))
          (λ (other : k ≢ x). rw get_or-set_other (f.known k (omega arith)))
          (cases_eq k x);
    }

-- the words before a place, and a whole part from it on
joined : (W : Interpretation) (at many : ℕ) (part : List ℕ) → Written W at many many part → words_of W at ++ part ≡ words_of W (at + many)
joined W at many part f =
    same_number_lists (words_of W at ++ part) (words_of W (at + many)) (omega (arith, long, length_words W (at + many))) go
  where
    long : length (words_of W at ++ part) ≡ at + many
    long = length-append (words_of W at) part ∙ omega (arith, length_words W at, f.long)

    go : (k : ℕ) → k < length (words_of W at ++ part) → get_or (words_of W at ++ part) k 0 ≡ get_or (words_of W (at + many)) k 0
    go k l = ⊎_elim
        (λ lt. get_or_append_left (words_of W at) part 0 k (omega (arith, length_words W at)) ∙ word_is W at k lt ∙ sym (word_is W (at + many) k (omega (arith, long))))
        (λ ge.
        let back : at + (k - at) ≡ k = omega arith in
        get_or-append_right (words_of W at) part at k 0 (length_words W at) ge ∙ f.known (k - at) (omega (arith, long))
        ∙ ap (word_at W) back ∙ sym (word_is W (at + many) k (omega (arith, long))))
        (cases_lt k at)

-- a part written after the words before it
pub overlaid_part : (W : Interpretation) (at many : ℕ) (words now part : List ℕ) → now ≡ overlaid W at words → Written W at many many part
    → put_mid at many now part ≡ overlaid W (at + many) words
overlaid_part W at many words now part e f =
    let before : take at now ≡ words_of W at = ap (take at) e ∙ take_at (words_of W at) (drop at words) at (length_words W at) in
    let after : drop at now ≡ drop at words = ap (drop at) e ∙ drop_at (words_of W at) (drop at words) at (length_words W at) in
    ap (λ xs. xs ++ (part ++ drop many (drop at now))) before
    ∙ ap (λ xs. words_of W at ++ (part ++ drop many xs)) after
    ∙ ap (λ xs. words_of W at ++ (part ++ xs)) (drop-drop many at words)
    ∙ sym (append_assoc (words_of W at) part (drop (at + many) words))
    ∙ ap (λ xs. xs ++ drop (at + many) words) (joined W at many part f)

-- the same, where the number of words written over has another form
pub overlaid_at : (W : Interpretation) (k n : ℕ) (words now : List ℕ) → k ≡ n → now ≡ overlaid W k words → now ≡ overlaid W n words
overlaid_at W k n words now same e = e ∙ ap (λ i. overlaid W i words) same

-- the rows of a role are within those of so many
pub rows_within : (r m roles : ℕ) → r < roles → r * m + m ≤ roles * m
rows_within r m roles l = omega (arith, mul-le (r + 1) m roles m (omega arith) (omega arith), add-mul r 1 m)

-- as many words as there were
pub length_overlaid : (W : Interpretation) (k : ℕ) (words : List ℕ) → k ≤ length words → length (overlaid W k words) ≡ length words
length_overlaid W k words l =
    length-append (words_of W k) (drop k words) ∙ omega (arith, length_words W k, length-drop k words)

-- a word that was written over
pub overlaid_is : (W : Interpretation) (n k : ℕ) (words : List ℕ) → k < n → get_or (overlaid W n words) k 0 ≡ word_at W k
overlaid_is W n k words l =
    get_or_append_left (words_of W n) (drop n words) 0 k (omega (arith, length_words W n)) ∙ word_is W n k l
