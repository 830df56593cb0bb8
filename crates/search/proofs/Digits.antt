-- What is left to do falls with each step.
use Rattle.std.proofs.Common.{◌≡◌, ℕ, zero, suc, ◌+◌, ◌-◌, ◌*◌, ◌<◌, ◌≤◌, Bool, true, false, cond, eqb, ltb, ◌≢◌, List, ◌∷◌, length, get_or, set, sym, refl, ap, ◌∙◌, suc-add, zero-add, arith, Some, None, Option}
use Rattle.std.proofs.lemmas.List.{get_or-set_same, get_or-set_other}
use Rattle.std.proofs.lemmas.Bool.{cond-true, cond-false, lt-ltb, le-ltb, eq-eqb}
use Rattle.tableau.specs.declared.Label.{Label}
use Rattle.search.specs.declared.Node.{Node}
use Rattle.search.specs.declared.Waiting.{Waiting}
use Rattle.search.specs.Games.{Game, Bounded}
use Rattle.search.specs.Nodes.{blank}
use Rattle.search.specs.Loop.{Task, Go, Fail, Try, base, left, weigh, unused, digit, number, measure}
use Rattle.search.proofs.Resume.{finish, again, fresh}

same_front : (f g : ℕ → ℕ) (p : ℕ) → ((i : ℕ) → i < p → f i ≡ g i) → number f p ≡ number g p
unfolding number
same_front f g zero h = refl
same_front f g (suc p) h =
    let e : number f p ≡ number g p = same_front f g p (λ i l. h i (omega arith)) in
    omega (arith, h p (omega arith))

less_after : (f g : ℕ → ℕ) (p j : ℕ) → number f p ≡ number g p → f p < g p → ((i : ℕ) → f i < base) → number f (suc (j + p)) < number g (suc (j + p))
unfolding number
less_after f g p zero e l b = rw zero-add (omega arith)
less_after f g p (suc j) e l b =
    let ih : number f (suc (j + p)) < number g (suc (j + p)) = less_after f g p j e l b in
    rw (suc-add j p) (omega (arith, ih, b (suc (j + p))))

-- a smaller digit after equal ones makes the number smaller, whatever follows
number_less : (f g : ℕ → ℕ) (p n : ℕ) → p < n → ((i : ℕ) → i < p → f i ≡ g i) → f p < g p → ((i : ℕ) → f i < base) → number f n < number g n
number_less f g p n h s l b =
    let e : n ≡ suc ((n - suc p) + p) = omega arith in
    rw e (less_after f g p (n - suc p) (same_front f g p s) l b)

cond_less : (b : Bool) (x y n : ℕ) → x < n → y < n → cond b x y < n
cond_less true x y n p q = p
cond_less false x y n p q = q

module _ (G : Game) where
  digit_used : (nodes : List Node) (m : ℕ) (t : Task) (i : ℕ) → i < m → digit G nodes m t i ≡ weigh G (get_or nodes i blank)
  unfolding digit
  digit_used nodes m t i h = cond-true _ _ _ (lt-ltb i m h)

  digit_unused : (nodes : List Node) (m : ℕ) (t : Task) (i : ℕ) → m ≤ i → digit G nodes m t i ≡ unused G t m i
  unfolding digit
  digit_unused nodes m t i h = cond-false _ _ _ (le-ltb i m h)

  unused_try : (s : Label) (c m : ℕ) → unused G (Try s c) m m ≡ length (G.labels_from s c) * 100 + 1
  unfolding unused
  unused_try s c m = cond-true _ _ _ (eq-eqb m m refl)

  module _ (B : Bounded G) where
    left_small : (x : Node) (w : Option Waiting) → left G x w < base
    left_small x None = omega arith
    left_small x (Some w) = omega (arith, B.labels_few x.seed w.choice, B.seeds_few x.label w.next)

    weigh_small : (x : Node) → weigh G x < base
    unfolding weigh
    weigh_small x = left_small x x.waiting

    unused_small : (t : Task) (m i : ℕ) → unused G t m i < base
    unfolding unused
    unused_small Go m i = omega arith
    unused_small Fail m i = omega arith
    unused_small (Try s c) m i =
        let a = B.labels_few s c in
        cond_less (eqb i m) (length (G.labels_from s c) * 100 + 1) (base - 1) base (omega arith) (omega arith)

    digit_small : (nodes : List Node) (m : ℕ) (t : Task) (i : ℕ) → digit G nodes m t i < base
    unfolding digit
    digit_small nodes m t i =
        cond_less (ltb i m) (weigh G (get_or nodes i blank)) (unused G t m i) base (weigh_small (get_or nodes i blank)) (unused_small t m i)

    module _ (x : Node) (w : Waiting) (e : x.waiting ≡ Some w) where
      weighs : weigh G x ≡ left G x (Some w)
      unfolding weigh
      weighs = ap (left G x) e

      -- an obligation less
      pub lighter_next : (t : Label) (q : ℕ) → G.seeds_from x.label w.next ≡ t ∷ G.seeds_from x.label q → weigh G (again x w q) < weigh G x
      unfolding weigh
      lighter_next t q s = omega (arith, weighs, ap length s)

      -- no obligation more
      pub lighter_done : weigh G (finish x) < weigh G x
      unfolding weigh
      lighter_done = omega (arith, weighs)

    pub falls_write : (nodes : List Node) (p m : ℕ) (t u : Task) (y : Node) → p < m → m ≤ length nodes → weigh G y < weigh G (get_or nodes p blank)
        → measure G (length nodes) (set nodes p y) m u < measure G (length nodes) nodes m t
    unfolding measure
    falls_write nodes p m t u y h k l =
        let lt : p < length nodes = omega arith in
        let f = digit G (set nodes p y) m u in
        let g = digit G nodes m t in
        let front : (i : ℕ) → i < p → f i ≡ g i = λ i a.
        let ne : i ≢ p = omega arith in
        digit_used (set nodes p y) m u i (omega arith) ∙ ap (weigh G) (get_or-set_other nodes p i y blank ne) ∙ sym (digit_used nodes m t i (omega arith)) in
        let here : f p ≡ weigh G y = digit_used (set nodes p y) m u p h ∙ ap (weigh G) (get_or-set_same nodes p y blank lt) in
        let there = digit_used nodes m t p h in
        number_less f g p (length nodes) lt front (omega arith) (digit_small (set nodes p y) m u)

    pub falls_back : (nodes is : List Node) (m p : ℕ) (v : Waiting) → p < m → m ≤ length nodes → (get_or nodes p blank).waiting ≡ Some v
        → ((i : ℕ) → i < p → get_or is i blank ≡ get_or nodes i blank)
        → measure G (length nodes) is p (Try (get_or nodes p blank).seed v.choice) < measure G (length nodes) nodes m Fail
    unfolding measure
    falls_back nodes is m p v h k w e =
        let x = get_or nodes p blank in
        let u = Try x.seed v.choice in
        let f = digit G is p u in
        let g = digit G nodes m Fail in
        let front : (i : ℕ) → i < p → f i ≡ g i = λ i a.
        digit_used is p u i a ∙ ap (weigh G) (e i a) ∙ sym (digit_used nodes m Fail i (omega arith)) in
        let here : f p ≡ length (G.labels_from x.seed v.choice) * 100 + 1 =
        digit_unused is p u p (omega arith) ∙ unused_try x.seed v.choice p in
        let there = digit_used nodes m Fail p h in
        number_less f g p (length nodes) (omega arith) front (omega (arith, here, there, weighs x v w)) (digit_small is p u)

    pub falls_none : (nodes : List Node) (m : ℕ) (s : Label) (c : ℕ) → m < length nodes
        → measure G (length nodes) nodes m Fail < measure G (length nodes) nodes m (Try s c)
    unfolding measure unused
    falls_none nodes m s c h =
        let f = digit G nodes m Fail in
        let g = digit G nodes m (Try s c) in
        let front : (i : ℕ) → i < m → f i ≡ g i = λ i a. digit_used nodes m Fail i a ∙ sym (digit_used nodes m (Try s c) i a) in
        let here : f m ≡ 0 = digit_unused nodes m Fail m (omega arith) in
        let there : g m ≡ length (G.labels_from s c) * 100 + 1 = digit_unused nodes m (Try s c) m (omega arith) ∙ unused_try s c m in
        number_less f g m (length nodes) h front (omega arith) (digit_small nodes m Fail)

    pub falls_make : (nodes : List Node) (m : ℕ) (s : Label) (c : ℕ) (e : Label) (q : ℕ) → m < length nodes → G.labels_from s c ≡ e ∷ G.labels_from s q
        → measure G (length nodes) (set nodes m (fresh s e q)) (m + 1) Go < measure G (length nodes) nodes m (Try s c)
    unfolding measure weigh
    falls_make nodes m s c e q h z =
        let x = fresh s e q in
        let f = digit G (set nodes m x) (m + 1) Go in
        let g = digit G nodes m (Try s c) in
        let front : (i : ℕ) → i < m → f i ≡ g i = λ i a.
        let ne : i ≢ m = omega arith in
        digit_used (set nodes m x) (m + 1) Go i (omega arith) ∙ ap (weigh G) (get_or-set_other nodes m i x blank ne) ∙ sym (digit_used nodes m (Try s c) i a) in
        let here : f m ≡ weigh G x = digit_used (set nodes m x) (m + 1) Go m (omega arith) ∙ ap (weigh G) (get_or-set_same nodes m x blank h) in
        let there : g m ≡ length (G.labels_from s c) * 100 + 1 = digit_unused nodes m (Try s c) m (omega arith) ∙ unused_try s c m in
        let long : length (G.labels_from s c) ≡ suc (length (G.labels_from s q)) = ap length z in
        let short = B.seeds_few e 0 in
        number_less f g m (length nodes) h front (omega arith) (digit_small (set nodes m x) (m + 1) Go)
