-- What a search comes to from its nodes and a task, and how each step keeps it.
use Rattle.std.proofs.Common.{◌≡◌, ℕ, zero, suc, ◌+◌, ◌-◌, ◌<◌, ◌≤◌, true, false, ◌≢◌, List, [], ◌∷◌, ◌++◌, map, length, get_or, take, set, sym, refl, ap, ◌∙◌, inl, inr, append_assoc, append-nil, add-zero, arith, length-set, length-take, Some, None, Option}
use Rattle.std.proofs.lemmas.List.{map-append, length-map, get_or-set_same, get_or-set_other, set-get_or, map-set, take_more, take_more_set, take-set, take-map}
use Rattle.std.proofs.lemmas.Bool.{cond-true, cond-false, le-leb, lt-leb, cases_eq}
use Rattle.tableau.specs.declared.Label.{Label}
use Rattle.tableau.specs.Labels.{any_contains}
use Rattle.tableau.specs.Search.{Outcome, failed, full, stands, Searcher, or_else, and_then, reuse}
use Rattle.search.specs.declared.Node.{Node}
use Rattle.search.specs.declared.Waiting.{Waiting}
use Rattle.search.specs.Games.{Game, run_seeds, try_all, explore_by}
use Rattle.search.specs.Nodes.{blank, label_of, labels, DoneFrom}
use Rattle.search.specs.Loop.{Go, Fail, Try, plug, hand_on, resume, gives, value}
use Rattle.search.proofs.Fix.{unroll}

-- x with its obligations met
abbrev pub finish : Node → Node
finish x = record { seed = x.seed; label = x.label; waiting = None }

-- x, which waits at w, to go on at entry q
abbrev pub again : Node → Waiting → ℕ → Node
again x w q = record { seed = x.seed; label = x.label; waiting = Some (record { choice = w.choice; next = q }) }

-- a new node for the expansion e of the seed s
abbrev pub fresh : Label → Label → ℕ → Node
fresh s e q = record { seed = s; label = e; waiting = Some (record { choice = q; next = 0 }) }

labels_set : (nodes : List Node) (p m : ℕ) (y : Node) → y.label ≡ (get_or nodes p blank).label → labels (take m (set nodes p y)) ≡ labels (take m nodes)
labels_set nodes p m y e =
    sym (take-map label_of m (set nodes p y))
    ∙ ap (take m) (map-set label_of nodes p y ∙ ap (set (map label_of nodes) p) e ∙ sym (map-set label_of nodes p (get_or nodes p blank)) ∙ ap (map label_of) (set-get_or nodes p blank))
    ∙ take-map label_of m nodes

done_set : (nodes : List Node) (p m : ℕ) (y : Node) → DoneFrom (p + 1) m nodes → DoneFrom (p + 1) m (set nodes p y)
done_set nodes p m y d k a b =
    let ne : k ≢ p = omega arith in
    rw get_or-set_other (d k a b)

done_from : (nodes : List Node) (p m : ℕ) (y : Node) → p < length nodes → y.waiting ≡ None → DoneFrom (p + 1) m nodes → DoneFrom p m (set nodes p y)
done_from nodes p m y h t d k a b =
    elim (cases_eq k p) [
      | inl e ↦ rw e (ap (λ z. z.waiting) (get_or-set_same nodes p y blank h) ∙ t)
      | inr ne ↦ rw get_or-set_other (d k (omega arith) b)
    ]

module _ (G : Game) where
  resume_append : (W : Searcher) (xs ys : List Node) (st : List Label) (o : Outcome)
      → resume G W st (xs ++ ys) o ≡ resume G W st xs (resume G W (st ++ labels xs) ys o)
  unfolding resume
  resume_append W [] ys st o = ap (λ u. resume G W u ys o) (sym (append-nil st))
  resume_append W (x ∷ xs) ys st o =
      let ih = resume_append W xs ys (st ++ x.label ∷ []) o in
      let e = append_assoc st (x.label ∷ []) (labels xs) in
      let whole : resume G W (st ++ x.label ∷ []) (xs ++ ys) o ≡ resume G W (st ++ x.label ∷ []) xs (resume G W (st ++ x.label ∷ labels xs) ys o) =
      ih ∙ ap (λ u. resume G W (st ++ x.label ∷ []) xs (resume G W u ys o)) e in
      ap (hand_on G W x x.waiting st) whole

  hand_on_full : (W : Searcher) (x : Node) (w : Option Waiting) (st : List Label) → hand_on G W x w st full ≡ full
  unfolding plug or_else and_then
  hand_on_full W x None st = refl
  hand_on_full W x (Some w) st = refl

  resume_full : (W : Searcher) (xs : List Node) (st : List Label) → resume G W st xs full ≡ full
  unfolding resume
  resume_full W [] st = refl
  resume_full W (x ∷ xs) st =
      ap (hand_on G W x x.waiting st) (resume_full W xs (st ++ x.label ∷ [])) ∙ hand_on_full W x x.waiting st

  -- the newest node, done or not
  resume_last : (W : Searcher) (nodes : List Node) (m : ℕ) (o : Outcome) → m < length nodes
      → resume G W [] (take (m + 1) nodes) o ≡ resume G W [] (take m nodes) (hand_on G W (get_or nodes m blank) (get_or nodes m blank).waiting (labels (take m nodes)) o)
  unfolding resume
  resume_last W nodes m o h =
      ap (λ xs. resume G W [] xs o) (take_more nodes m blank h) ∙ resume_append W (take m nodes) (get_or nodes m blank ∷ []) [] o

  -- the newest nodes, all done
  skip : (W : Searcher) (nodes : List Node) (p j : ℕ) (o : Outcome) → p + j ≤ length nodes → DoneFrom p (p + j) nodes
      → resume G W [] (take (p + j) nodes) o ≡ resume G W [] (take p nodes) o
  skip W nodes p zero o h d = ap (λ q. resume G W [] (take q nodes) o) (add-zero p)
  skip W nodes p (suc j) o h d =
      let e : p + suc j ≡ p + j + 1 = omega arith in
      let l : p + j < length nodes = omega arith in
      let t = d (p + j) (omega arith) (omega arith) in
      ap (λ q. resume G W [] (take q nodes) o) e
      ∙ resume_last W nodes (p + j) o l
      ∙ ap (λ w. resume G W [] (take (p + j) nodes) (hand_on G W (get_or nodes (p + j) blank) w (labels (take (p + j) nodes)) o)) t
      ∙ skip W nodes p j o (omega arith) (λ k a b. d k a (omega arith))

  skip_to : (W : Searcher) (nodes : List Node) (p m : ℕ) (o : Outcome) → p ≤ m → m ≤ length nodes → DoneFrom p m nodes
      → resume G W [] (take m nodes) o ≡ resume G W [] (take p nodes) o
  skip_to W nodes p m o h k d =
      let e : m ≡ p + (m - p) = omega arith in
      ap (λ q. resume G W [] (take q nodes) o) e
      ∙ skip W nodes p (m - p) o (omega arith) (λ i a b. d i a (omega arith))

  -- the newest node that waits
  at_top : (W : Searcher) (nodes : List Node) (p m : ℕ) (v : Waiting) (o : Outcome) → p < m → m ≤ length nodes → (get_or nodes p blank).waiting ≡ Some v → DoneFrom (p + 1) m nodes
      → resume G W [] (take m nodes) o ≡ resume G W [] (take p nodes) (plug G W (get_or nodes p blank) v (labels (take p nodes)) o)
  at_top W nodes p m v o h k w d =
      skip_to W nodes (p + 1) m o (omega arith) k d
      ∙ resume_last W nodes p o (omega arith)
      ∙ ap (λ u. resume G W [] (take p nodes) (hand_on G W (get_or nodes p blank) u (labels (take p nodes)) o)) w

  -- no node waits
  pub done_go : (n : ℕ) (nodes : List Node) (m : ℕ) → m ≤ length nodes → DoneFrom 0 m nodes → value G n nodes m Go ≡ stands (labels (take m nodes))
  unfolding value gives resume
  done_go n nodes m h d = skip_to (explore_by G n n) nodes 0 m (stands (labels (take m nodes))) (omega arith) h d

  pub done_fail : (n : ℕ) (nodes : List Node) (m : ℕ) → m ≤ length nodes → DoneFrom 0 m nodes → value G n nodes m Fail ≡ failed
  unfolding value gives resume
  done_fail n nodes m h d = skip_to (explore_by G n n) nodes 0 m failed (omega arith) h d

  pub start : (n : ℕ) (nodes : List Node) (s : Label) → 0 < n → value G n nodes 0 (Try s 0) ≡ explore_by G n n [] s
  unfolding value gives resume
  start n nodes s h = sym (unroll G n [] s ∙ cond-false _ full _ (lt-leb n 0 h))

  -- the seed s has no expansion left
  pub exhausted : (n : ℕ) (nodes : List Node) (m : ℕ) (s : Label) (c : ℕ) → G.labels_from s c ≡ [] → value G n nodes m Fail ≡ value G n nodes m (Try s c)
  unfolding value gives try_all
  exhausted n nodes m s c e =
      sym (ap (λ es. resume G (explore_by G n n) [] (take m nodes) (try_all G (explore_by G n n) es (labels (take m nodes)))) e)

  -- the seed s gets the label e
  pub make : (n : ℕ) (nodes : List Node) (m : ℕ) (s : Label) (c : ℕ) (e : Label) (q : ℕ) → m < length nodes → G.labels_from s c ≡ e ∷ G.labels_from s q
      → value G n (set nodes m (fresh s e q)) (m + 1) Go ≡ value G n nodes m (Try s c)
  unfolding value gives resume plug try_all and_then
  make n nodes m s c e q h z =
      let W = explore_by G n n in
      let L = labels (take m nodes) in
      let x : Node = fresh s e q in
      ap (λ xs. resume G W [] xs (stands (labels xs))) (take_more_set nodes m x h)
      ∙ ap (λ u. resume G W [] (take m nodes ++ x ∷ []) (stands u)) (map-append label_of (take m nodes) (x ∷ []))
      ∙ resume_append W (take m nodes) (x ∷ []) [] (stands (L ++ e ∷ []))
      ∙ sym (ap (λ es. resume G W [] (take m nodes) (try_all G W es L)) z)

  -- the node at p is the newest that waits
  module _ (n : ℕ) (nodes : List Node) (p m : ℕ) (h : p < m) (k : m ≤ length nodes) (v : Waiting) (w : (get_or nodes p blank).waiting ≡ Some v) (d : DoneFrom (p + 1) m nodes) where
    -- its label is given up
    pub back : (is : List Node) → take p is ≡ take p nodes
        → value G n is p (Try (get_or nodes p blank).seed v.choice) ≡ value G n nodes m Fail
    unfolding value gives plug or_else and_then
    back is e =
        let W = explore_by G n n in
        let x = get_or nodes p blank in
        ap (λ xs. resume G W [] xs (try_all G W (G.labels_from x.seed v.choice) (labels xs))) e
        ∙ sym (at_top W nodes p m v failed h k w d)

    -- its obligations are met
    pub complete : G.seeds_from (get_or nodes p blank).label v.next ≡ []
        → value G n (set nodes p (finish (get_or nodes p blank))) m Go ≡ value G n nodes m Go
    unfolding value gives plug run_seeds or_else and_then
    complete s =
        let W = explore_by G n n in
        let L = labels (take m nodes) in
        let x = get_or nodes p blank in
        let y = finish x in
        let R = try_all G W (G.labels_from x.seed v.choice) (labels (take p nodes)) in
        let len : m ≤ length (set nodes p y) = rw length-set k in
        ap (λ u. resume G W [] (take m (set nodes p y)) (stands u)) (labels_set nodes p m y refl)
        ∙ skip_to W (set nodes p y) p m (stands L) (omega arith) len (done_from nodes p m y (omega arith) refl d)
        ∙ ap (λ xs. resume G W [] xs (stands L)) (take-set nodes p y)
        ∙ sym (at_top W nodes p m v (stands L) h k w d ∙ ap (λ ts. resume G W [] (take p nodes) (or_else (run_seeds W ts L) (λ u. R))) s)

    -- its next obligation has the seed t
    turn : (t : Label) (q : ℕ) → G.seeds_from (get_or nodes p blank).label v.next ≡ t ∷ G.seeds_from (get_or nodes p blank).label q
        → value G n nodes m Go
        ≡ resume G (explore_by G n n) [] (take m (set nodes p (again (get_or nodes p blank) v q))) (reuse (any_contains (labels (take m nodes)) t) (explore_by G n n) (labels (take m nodes)) t)
    unfolding value gives plug run_seeds and_then
    turn t q s =
        let W = explore_by G n n in
        let L = labels (take m nodes) in
        let x = get_or nodes p blank in
        let y = again x v q in
        let o = reuse (any_contains L t) W L t in
        let lt : p < length nodes = omega arith in
        let here : get_or (set nodes p y) p blank ≡ y = get_or-set_same nodes p y blank lt in
        let waits : (get_or (set nodes p y) p blank).waiting ≡ Some (record { choice = v.choice; next = q }) = ap (λ z. z.waiting) here in
        let len : m ≤ length (set nodes p y) = rw length-set k in
        let R = try_all G W (G.labels_from x.seed v.choice) (labels (take p nodes)) in
        let left : resume G W [] (take m nodes) (stands L) ≡ resume G W [] (take p nodes) (or_else (and_then o (run_seeds W (G.seeds_from x.label q))) (λ u. R)) =
        at_top W nodes p m v (stands L) h k w d
        ∙ ap (λ ts. resume G W [] (take p nodes) (or_else (run_seeds W ts L) (λ u. R))) s in
        let right : resume G W [] (take m (set nodes p y)) o ≡ resume G W [] (take p nodes) (plug G W y (record { choice = v.choice; next = q }) (labels (take p nodes)) o) =
        at_top W (set nodes p y) p m (record { choice = v.choice; next = q }) o h len waits (done_set nodes p m y d)
        ∙ ap (λ z. resume G W [] (take p (set nodes p y)) (plug G W z (record { choice = v.choice; next = q }) (labels (take p (set nodes p y))) o)) here
        ∙ ap (λ xs. resume G W [] xs (plug G W y (record { choice = v.choice; next = q }) (labels xs) o)) (take-set nodes p y) in
        left ∙ sym right

    module _ (t : Label) (q : ℕ) (s : G.seeds_from (get_or nodes p blank).label v.next ≡ t ∷ G.seeds_from (get_or nodes p blank).label q) where
      same_labels : labels (take m (set nodes p (again (get_or nodes p blank) v q))) ≡ labels (take m nodes)
      same_labels = labels_set nodes p m (again (get_or nodes p blank) v q) refl

      count : length (labels (take m nodes)) ≡ m
      count = simp (length-map, length-take) (omega arith)

      -- a standing label contains it
      pub go_on : any_contains (labels (take m (set nodes p (again (get_or nodes p blank) v q)))) t ≡ true
          → value G n (set nodes p (again (get_or nodes p blank) v q)) m Go ≡ value G n nodes m Go
      unfolding value gives reuse
      go_on f =
          let W = explore_by G n n in
          let is = set nodes p (again (get_or nodes p blank) v q) in
          let L = labels (take m nodes) in
          let e : any_contains L t ≡ true = sym (ap (λ u. any_contains u t) same_labels) ∙ f in
          ap (λ u. resume G W [] (take m is) (stands u)) same_labels
          ∙ sym (turn t q s ∙ ap (λ b. resume G W [] (take m is) (reuse b W L t)) e)

      -- no standing label contains it, and there is no room
      pub refuse : any_contains (labels (take m (set nodes p (again (get_or nodes p blank) v q)))) t ≡ false → n ≤ m
          → value G n nodes m Go ≡ full
      unfolding reuse
      refuse f r =
          let W = explore_by G n n in
          let is = set nodes p (again (get_or nodes p blank) v q) in
          let L = labels (take m nodes) in
          let e : any_contains L t ≡ false = sym (ap (λ u. any_contains u t) same_labels) ∙ f in
          turn t q s
          ∙ ap (λ b. resume G W [] (take m is) (reuse b W L t)) e
          ∙ ap (resume G W [] (take m is)) (unroll G n L t ∙ cond-true _ full _ (le-leb n (length L) (omega (arith, count))))
          ∙ resume_full W (take m is) []

      -- no standing label contains it, and there is room
      pub descend : any_contains (labels (take m (set nodes p (again (get_or nodes p blank) v q)))) t ≡ false → m < n
          → value G n (set nodes p (again (get_or nodes p blank) v q)) m (Try t 0) ≡ value G n nodes m Go
      unfolding value gives reuse
      descend f r =
          let W = explore_by G n n in
          let is = set nodes p (again (get_or nodes p blank) v q) in
          let L = labels (take m nodes) in
          let e : any_contains L t ≡ false = sym (ap (λ u. any_contains u t) same_labels) ∙ f in
          ap (λ u. resume G W [] (take m is) (try_all G W (G.labels_from t 0) u)) same_labels
          ∙ sym (turn t q s
          ∙ ap (λ b. resume G W [] (take m is) (reuse b W L t)) e
          ∙ ap (resume G W [] (take m is)) (unroll G n L t ∙ cond-false _ full _ (lt-leb n (length L) (omega (arith, count)))))
