-- What the relation by the bytes of a book means.
use Rattle.std.proofs.Common.{◌≡◌, ℕ, List, [], IfOk, Ok, Err, Result, sym, subst}
use Rattle.denial.specs.declared.Denial.{Denial}
use Rattle.denial.specs.Denials.{Answer, granted, answer, denial_report}
use Rattle.book.specs.Sections.{Sections, says}
use Rattle.book.specs.Reading.{reading}
use Rattle.roles.specs.Hierarchies.{roles_of}
use Rattle.tableau.specs.Promises.{Opens}
use Rattle.runs.specs.Setups.{setup}
use Rattle.host.specs.declared.relation.Relation.{Relation}
use Rattle.host.specs.Relations.{filed_by}
use Rattle.host.specs.Meanings.{Means}
use Rattle.host.proofs.Meaning.{relation_means}

module _ (n : ℕ) (bytes : List ℕ) (first second : ℕ) where
  -- what is done with a book on which a register is opened
  abbrev filing : Sections → Answer Relation
  filing s = filed_by (setup (roles_of s) (says s)) [] n first second

  -- What was read is what the reader of a contract read, so the relation means to him what it means here.
  pub found_means : (s : Sections) → granted s ≡ reading bytes → Opens (roles_of s) (says s)
      → (r : Result Relation Denial) → answer (λ x. x) denial_report r ≡ filing s
      → IfOk r (λ x. (t : Sections) → reading bytes ≡ granted t → Means (roles_of t) (says t) first second x)
  found_means s e P (Ok x) g = λ t h.
      let same : s ≡ t = cc in
      subst (λ u. Means (roles_of u) (says u) first second x) same
      (relation_means (roles_of s) (says s) P n first second x (sym g))
  found_means s e P (Err d) g = tt
