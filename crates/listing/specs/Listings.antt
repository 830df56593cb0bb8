-- The listing of a book: the entries upward from 0 filed on a fresh register, and a line for each.
use Rattle.std.specs.Prelude.{◌≡◌, ℕ, zero, suc, List, [], ◌∷◌, ◌++◌, map}
use Rattle.denial.specs.Denials.{Answer, granted, denied, and_then}
use Rattle.meaning.specs.Orders.{RoleBox}
use Rattle.meaning.specs.Books.{Book}
use Rattle.book.specs.Sections.{Sections, says}
use Rattle.book.specs.Reading.{reading}
use Rattle.roles.specs.Hierarchies.{roles_of}
use Rattle.plan.specs.Building.{verdict}
use Rattle.runs.specs.Setups.{setup}
use Rattle.runs.specs.Steps.{Call, file, ask, show, Reply, class, said, shown, refused}
use Rattle.runs.specs.Runs.{Event, Run, history, Right}
use Rattle.lines.specs.Listings.{line_of_class, line_of_denied_entry, line_of_book}

-- the nodes that each filing is lent
abbrev pub lent_nodes : ℕ
lent_nodes = 64

-- m entries are filed, upward from the entry
unfoldable pub filings_from : (entry m : ℕ) → List Call
filings_from entry zero = []
filings_from entry (suc m) = file entry lent_nodes ∷ filings_from (suc entry) m

-- the first n entries are filed
abbrev pub filings : ℕ → List Call
filings n = filings_from 0 n

-- the line of a filing: the class number, or the number of the refusal
abbrev pub filed_line : ℕ → Reply → List ℕ
filed_line entry (class k) = line_of_class entry k
filed_line entry (said b) = []
filed_line entry (shown m side) = []
filed_line entry (refused r) = line_of_denied_entry entry r.number

-- no other call has a line
abbrev pub call_line : Call → Reply → List ℕ
call_line (file entry n) r = filed_line entry r
call_line (ask a b n) r = []
call_line (show a b n words) r = []

-- the lines of a run, one after another
unfoldable pub lines_of : List Event → List ℕ
lines_of [] = []
lines_of (e ∷ es) = call_line e.call e.done.reply ++ lines_of es

-- the run in which all entries of a book are filed on a fresh register, under the book's own hierarchy
abbrev pub filing_run : Sections → List Event
filing_run s = history (setup (roles_of s) (says s)) [] (filings (says s).entries)

-- that run, if a register is opened on the book
abbrev pub opened_run : Sections → Answer (List Event)
opened_run s = and_then (verdict (roles_of s) (says s)) (λ u. granted (filing_run s))

-- its lines, or the line of the book that is refused
abbrev pub listed : Answer (List Event) → List ℕ
listed (granted run) = lines_of run
listed (denied r) = line_of_book r.number

-- the listing of the book in the bytes, which may be refused in reading
unfoldable pub listing_of : List ℕ → List ℕ
listing_of bytes = listed (and_then (reading bytes) opened_run)

-- The lines of a listing of the book are those of the run of a fresh register in which each of its entries was filed, upward from 0;
-- and the run is right. So of the entries that are not refused, two have lines with one class number exactly when no finite world that
-- keeps the book holds them apart.
pub record RightLines (H : RoleBox) (K : Book) (lines : List ℕ) : Type 0 where
  pub run : List Event
  pub runs : Run (setup H K) [] run
  pub calls : map (λ e. e.call) run ≡ filings K.entries
  pub lines_are : lines ≡ lines_of run
  pub right : Right H K run
