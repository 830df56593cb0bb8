-- Two small books, as bytes, and what searches in them come to and a register opened on them answers.
use Rattle.std.specs.Prelude.{◌≡◌, ℕ, true, false, List, [], ◌∷◌, ◌++◌, map, replicate}
use Rattle.denial.specs.Denials.{Answer, granted, denied, and_then, reported}
use Rattle.denial.specs.declared.Layer.TheVariants.{Trailer}
use Rattle.book.specs.Sections.{says}
use Rattle.book.specs.Reading.{reading}
use Rattle.roles.specs.Hierarchies.{roles_of}
use Rattle.tableau.specs.Search.{Outcome, stands}
use Rattle.tableau.specs.Working.{width_of, seed_of_one}
use Rattle.plan.specs.Building.{verdict}
use Rattle.runs.specs.Setups.{setup, search_in}
use Rattle.runs.specs.Steps.{Call, file, ask, show, Reply, class, said, shown, refusal}
use Rattle.runs.specs.Runs.{Event, history}

-- Book A: role 0 is transitive and below role 1; six entries, no rule.
abbrev pub bytes_a : List ℕ
bytes_a =
    1 ∷ 0 ∷ 0 ∷ 1 ∷ 2 ∷ 0 ∷ 0 ∷ 0 ∷ 6 ∷ 0 ∷ 0 ∷ 0 ∷ 6 ∷ 0 ∷ 1 ∷ 0 ∷ 3 ∷ 0 ∷ 0 ∷ 0 ∷ 7 ∷ 1 ∷ 3 ∷ 0 ∷ 4 ∷ 2 ∷ 4 ∷ 0
    ∷ 0 ∷ 0 ∷ 2 ∷ 0 ∷ 2 ∷ 0 ∷ 1 ∷ 0 ∷ 4 ∷ 0 ∷ 6 ∷ 0 ∷ 28 ∷ 0 ∷ 0 ∷ 0 ∷ []

-- Book B: one plain role, two entries, and the rule that all of entry 0 is in entry 1.
abbrev pub bytes_b : List ℕ
bytes_b =
    0 ∷ 2 ∷ 0 ∷ 0 ∷ 0 ∷ 6 ∷ 0 ∷ 0 ∷ 0 ∷ 0 ∷ 1
    ∷ 0 ∷ 0 ∷ 1 ∷ 0 ∷ 1 ∷ 0 ∷ 0 ∷ 0 ∷ 1 ∷ 0 ∷ 2 ∷ 0 ∷ 9 ∷ 0 ∷ 1 ∷ 0 ∷ []

-- what the calls come to on a register that is opened on the book in the bytes, under its own hierarchy
abbrev pub run_on : List ℕ → List Call → Answer (List Event)
run_on bytes calls =
    and_then (reading bytes) (λ s. and_then (verdict (roles_of s) (says s)) (λ u. granted (history (setup (roles_of s) (says s)) [] calls)))

abbrev pub replies : Answer (List Event) → Answer (List Reply)
replies a = and_then a (λ run. granted (map (λ e. e.done.reply) run))

abbrev pub sheets : Answer (List Event) → Answer (List (List ℕ))
sheets a = and_then a (λ run. granted (map (λ e. e.done.sheet) run))

-- how many working entries the book in the bytes has under its own hierarchy
abbrev pub width_on : List ℕ → Answer ℕ
width_on bytes = and_then (reading bytes) (λ s. granted (width_of (roles_of s) (says s)))

-- what the search for an individual in entry a of the book comes to in n nodes
abbrev pub search_on : List ℕ → ℕ → ℕ → Answer Outcome
search_on bytes a n = and_then (reading bytes) (λ s. granted (search_in (setup (roles_of s) (says s)) (seed_of_one a) n))

pub record RegisterExamples : Type 0 where
  pub a_width : width_on bytes_a ≡ granted 9
  pub b_width : width_on bytes_b ≡ granted 5
  -- entry 0 of B in one node: its label has every working entry with +
  pub b_stands : search_on bytes_b 0 1 ≡ granted (stands (record { plus = 31; minus = 0 } ∷ []))
  -- entry 5 of A has no individual in any world that keeps A: three nodes show it, and two are too few
  pub a_nothing : replies (run_on bytes_a (file 5 3 ∷ [])) ≡ granted (class 0 ∷ [])
  pub a_room : replies (run_on bytes_a (file 5 2 ∷ [])) ≡ granted (refusal 15 0 ∷ [])
  -- all entries of A filed; some by role 0 of (some by role 0 of entry 0) is within some by role 0 of entry 0, not the reverse
  pub a_asks : replies (run_on bytes_a (file 0 64 ∷ file 1 64 ∷ file 2 64 ∷ file 3 64 ∷ file 4 64 ∷ file 5 64 ∷ ask 3 2 64 ∷ ask 2 3 64 ∷ []))
      ≡ granted (class 1 ∷ class 2 ∷ class 3 ∷ class 4 ∷ class 5 ∷ class 0 ∷ said true ∷ said false ∷ [])
  -- entry 0 of B has an individual, joined to itself; a word past those needed stays as it was
  pub b_shows : replies (run_on bytes_b (file 0 1 ∷ show 1 0 1 (replicate 67 7) ∷ show 1 0 1 (replicate 65 7) ∷ []))
      ≡ granted (class 1 ∷ shown 1 1 ∷ refusal 11 66 ∷ [])
  pub b_sheet : sheets (run_on bytes_b (file 0 1 ∷ show 1 0 1 (replicate 67 7) ∷ show 1 0 1 (replicate 65 7) ∷ []))
      ≡ granted ([] ∷ (1 ∷ 1 ∷ replicate 63 0 ++ 1 ∷ 7 ∷ []) ∷ replicate 65 7 ∷ [])
  -- entry 1 of B wants a second node
  pub b_room : replies (run_on bytes_b (file 1 1 ∷ [])) ≡ granted (refusal 15 0 ∷ [])
  pub b_files : replies (run_on bytes_b (file 0 2 ∷ file 1 2 ∷ [])) ≡ granted (class 1 ∷ class 2 ∷ [])
  -- bytes that are no book
  pub too_short : reading (replicate 15 0) ≡ denied (reported 1 15 Trailer)
  pub no_entry : reading (replicate 16 0) ≡ denied (reported 2 10 Trailer)
