-- Going through the digits of a text.
use Rattle.std.proofs.Common.{◌≡◌, ◌≢◌, ℕ, ◌+◌, ◌*◌, ◌%◌, ◌^◌, ◌<◌, ◌≤◌, min, Bool, true, ◌&&◌, List, [], ◌∷◌, ◌++◌, length, get_or, drop, Some, None, Option, is_some, refl, ap, sym, ◌∙◌, append_assoc, arith}
use Rattle.std.specs.List.{list_all}
use Rattle.std.specs.Str.Parse.{AllDigits, digits_value, digits_value_after}
use Rattle.std.proofs.Math.Nat.{pow-le-pow_right}
use Rattle.std.proofs.lemmas.Nat.{pow-add}
use Rattle.std.proofs.lemmas.Int.Digits.{digits_value-lt}
use Rattle.std.proofs.lemmas.List.{drop_more}
use Rattle.std.proofs.lemmas.Bool.{true≢false, and_parts}
use Rattle.std.specs.Char.{digit_value}
use Rattle.std.proofs.lemmas.Bool.Decides.{nat_tests}
use Rattle.script.specs.Digits.{digit_of}
use Rattle.script.specs.Hexes.{byte_of, bytes_in, if_some, led_by}

none_after : (o : Option ℕ) → if_some o (λ byte. led_by byte None) ≡ None
none_after (Some b) = refl
none_after None = refl

-- an odd number of digits writes no bytes
pub odd_none : (text : List ℕ) → length text % 2 ≢ 0 → bytes_in text ≡ None
odd_none [] odd = absurd (odd refl)
odd_none (a ∷ []) odd = refl
odd_none (a ∷ b ∷ text) odd =
    ap (λ r. if_some (byte_of (a ∷ b ∷ [])) (λ byte. led_by byte r)) (odd_none text (λ even. odd (omega arith))) ∙ none_after (byte_of (a ∷ b ∷ []))

-- a digit has the value that the library gives it
pub digit_is : (b d : ℕ) → digit_of b ≡ Some d → (digit_value b ≡ d) × (d < 16)
digit_is b d e = grind (arith, nat_tests)

abbrev pub is_digit : ℕ → Bool
is_digit b = is_some (digit_of b)

some_of : (o : Option ℕ) → is_some o ≡ true → (d : ℕ) × (o ≡ Some d)
some_of (Some d) some = (d, refl)
some_of None none = absurd (true≢false (sym none))

pub all_digits : (text : List ℕ) → list_all is_digit text ≡ true → AllDigits 16 text
all_digits [] all = tt
all_digits (b ∷ text) all =
    let p = and_parts (is_digit b) (list_all is_digit text) all in
    let o = some_of (digit_of b) p.0 in
    let v = digit_is b o.0 o.1 in (omega (arith, v.0, v.1), all_digits text p.1)

-- what the digits that are left write after those that were read
pub digit_goes : (text : List ℕ) (i word d : ℕ) → i < length text → digit_of (get_or text i 0) ≡ Some d
    → digits_value_after 16 word (drop i text) ≡ digits_value_after 16 (16 * word + d) (drop (i + 1) text)
digit_goes text i word d l e =
    let v = digit_is (get_or text i 0) d e in
    let same : word * 16 + digit_value (get_or text i 0) ≡ 16 * word + d = omega (arith, v.0) in
    ap (digits_value_after 16 word) (drop_more text i 0 l) ∙ ap (λ n. digits_value_after 16 n (drop (i + 1) text)) same

pub digits_left : (text : List ℕ) (i d : ℕ) → i < length text → digit_of (get_or text i 0) ≡ Some d
    → list_all is_digit (drop i text) ≡ list_all is_digit (drop (i + 1) text)
digits_left text i d l e = ap (list_all is_digit) (drop_more text i 0 l) ∙ ap (λ o. is_some o && list_all is_digit (drop (i + 1) text)) e

-- 16 digits fit a word
pub digit_fits : (word i d : ℕ) → word < 16 ^ i → i < 16 → d < 16 → 16 * word + d < 2 ^ 64
digit_fits word i d w l s =
    let few : i ≤ 15 = omega arith in
    let most : 16 ^ i ≤ 16 ^ 15 = pow-le-pow_right (omega arith) few in
    omega (arith, most)

pub one_more : (word i d : ℕ) → word < 16 ^ i → d < 16 → 16 * word + d < 16 ^ (i + 1)
one_more word i d w s = omega (arith, pow-add 16 i 1)

pub word_fits : (text : List ℕ) → length text ≤ 16 → AllDigits 16 text → digits_value 16 text < 2 ^ 64
word_fits text short all =
    let most : 16 ^ length text ≤ 16 ^ 16 = pow-le-pow_right (omega arith) short in
    omega (arith, most, digits_value-lt 16 text all)

-- the bytes of the rest, after those that are there
abbrev pub onto : List ℕ → Option (List ℕ) → Option (List ℕ)
onto bs (Some cs) = Some (bs ++ cs)
onto bs None = None

-- a text is read pair by pair
by_pair : (x rest : List ℕ) → 0 < length (x ++ rest) → length x ≡ min 2 (length (x ++ rest))
    → bytes_in (x ++ rest) ≡ if_some (byte_of x) (λ b. led_by b (bytes_in rest))
by_pair [] [] some l = absurd (omega arith)
by_pair [] (r ∷ rest) some l = absurd (omega arith)
by_pair (a ∷ []) [] some l = refl
by_pair (a ∷ []) (r ∷ rest) some l = absurd (omega arith)
by_pair (a ∷ b ∷ []) rest some l = refl
by_pair (a ∷ b ∷ c ∷ more) rest some l = absurd (omega arith)

onto_led : (bs cs : List ℕ) (b : ℕ) (r : Option (List ℕ)) → cs ≡ bs ++ b ∷ [] → onto cs r ≡ onto bs (led_by b r)
onto_led bs cs b None e = refl
onto_led bs cs b (Some ds) e = ap (λ xs. Some (xs ++ ds)) e ∙ ap Some (append_assoc bs (b ∷ []) ds)

-- a pair that is a byte comes after those that are there
pub pair_goes : (bs cs text x rest : List ℕ) (n b : ℕ) (whole : Option (List ℕ)) → n ≡ 2 → text ≡ x ++ rest → length x ≡ min n (length text) → 0 < length text
    → byte_of x ≡ Some b → cs ≡ bs ++ b ∷ [] → onto bs (bytes_in text) ≡ whole → onto cs (bytes_in rest) ≡ whole
pair_goes bs cs text x rest n b whole two e l some is more before =
    let some' : 0 < length (x ++ rest) = rw (← e) some in
    let l' : length x ≡ min 2 (length (x ++ rest)) = rw (← e, ← two) l in
    let p : bytes_in text ≡ led_by b (bytes_in rest) = ap bytes_in e ∙ by_pair x rest some' l' ∙ ap (λ o. if_some o (λ d. led_by d (bytes_in rest))) is in
    onto_led bs cs b (bytes_in rest) more ∙ ap (onto bs) (sym p) ∙ before
