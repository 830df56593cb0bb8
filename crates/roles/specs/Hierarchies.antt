-- The hierarchy of a book, as its closure rows and its told pairs both answer it.
use Rattle.std.specs.Prelude.{length}
use Rattle.meaning.specs.Orders.{RoleBox, role_box}
use Rattle.book.specs.Sections.{Sections}
use Rattle.roles.specs.Told.{marked}
use Rattle.roles.specs.Closure.{closure}

-- its roles, ordered by the told inclusions, those transitive whose record says so
abbrev pub roles_of : Sections → RoleBox
roles_of s = role_box (length s.roles) (closure (length s.roles) s.pairs) (marked s.roles)
