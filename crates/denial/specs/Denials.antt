-- The number, the detail and the layer of every refusal.
use Rattle.std.specs.Prelude.{ℕ, List, ◌++◌, codes, decimal, Ok, Err, Result}
use Rattle.denial.specs.declared.Layer.{Layer}
use Rattle.denial.specs.declared.Layer.TheVariants.{Trailer, Records, Register}
use Rattle.denial.specs.declared.Report.{Report}
use Rattle.denial.specs.declared.TrailerDenial.{TrailerDenial}
use Rattle.denial.specs.declared.TrailerDenial.TheVariants.{Length, Count, Place}
use Rattle.denial.specs.declared.RecordDenial.{RecordDenial}
use Rattle.denial.specs.declared.RecordDenial.TheVariants.{Layout, Role, Pair, Concept, Rule}
use Rattle.denial.specs.declared.Denial.{Denial}
use Rattle.denial.specs.declared.Denial.TheVariants.{Unread, Entry, Class, Sheet, ShortSheet, RoleCount, Width, Classes, Room, Equal, Individuals}

abbrev pub reported : ℕ → ℕ → Layer → Report
reported n d l = record { number = n; detail = d; layer = l }

abbrev pub trailer_report : TrailerDenial → Report
trailer_report (Length d) = reported 1 d Trailer
trailer_report (Count d) = reported 2 d Trailer
trailer_report (Place d) = reported 3 d Trailer

-- the lower layer's report is handed on whole
abbrev pub record_report : RecordDenial → Report
record_report (Layout lower) = trailer_report lower
record_report (Role d) = reported 4 d Records
record_report (Pair d) = reported 5 d Records
record_report (Concept d) = reported 6 d Records
record_report (Rule d) = reported 7 d Records

abbrev pub denial_report : Denial → Report
denial_report (Unread lower) = record_report lower
denial_report (Entry d) = reported 8 d Register
denial_report (Class d) = reported 9 d Register
denial_report (Sheet d) = reported 10 d Register
denial_report (ShortSheet d) = reported 11 d Register
denial_report (RoleCount d) = reported 12 d Register
denial_report (Width d) = reported 13 d Register
denial_report (Classes d) = reported 14 d Register
denial_report (Room d) = reported 15 d Register
denial_report (Equal d) = reported 16 d Register
denial_report (Individuals d) = reported 17 d Register

abbrev pub from_trailer : TrailerDenial → RecordDenial
from_trailer lower = Layout lower

abbrev pub from_record : RecordDenial → Denial
from_record lower = Unread lower

-- how a layer is shown
abbrev pub name_of_layer : Layer → List ℕ
name_of_layer Trailer = codes "trailer"
name_of_layer Records = codes "records"
name_of_layer Register = codes "register"

-- how a report is shown: "denied", its number, its detail and its layer
abbrev pub text_of_report : Report → List ℕ
text_of_report r = codes "denied " ++ (decimal r.number ++ (codes " " ++ (decimal r.detail ++ (codes " " ++ name_of_layer r.layer))))

-- what a call that can refuse comes to: a value, or a refusal with its report
pub data Answer (A : Type 0) : Type 0 where
  granted : A → Answer A
  denied : Report → Answer A

-- the answer of a result, where `view` says what the value holds and `report` what the refusal says
abbrev pub answer : {T E A : Type 0} → (T → A) → (E → Report) → Result T E → Answer A
answer view report (Ok x) = granted (view x)
answer view report (Err e) = denied (report e)

-- goes on with what was granted; a refusal is handed on whole
abbrev pub and_then : {A B : Type 0} → Answer A → (A → Answer B) → Answer B
and_then (granted x) f = f x
and_then (denied r) f = denied r
