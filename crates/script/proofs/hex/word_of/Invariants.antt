use Rattle.std.proofs.Common.{◌≡◌, ◌^◌, ◌<◌, drop}
use Rattle.std.specs.List.{list_all}
use Rattle.std.specs.Str.Parse.{digits_value, digits_value_after}
use Rattle.script.proofs.Reading.{is_digit}
use Rattle.script.proofs.hex.word_of.Given as goal

-- the digits that are left write the whole after those that were read, which are digits all
abbrev pub invariant-loop-b : goal.invariant-loop-b
invariant-loop-b l =
    (digits_value_after 16 l.word (drop l.b-index l.b-items) ≡ digits_value 16 l.text) × (l.word < 16 ^ l.b-index)
    × (list_all is_digit (drop l.b-index l.b-items) ≡ list_all is_digit l.text)
