-- Document 01's numbers of the refusals; 15, for room that is lent and too small, as document 02 has it.
-- Assumes nothing.
use Rattle.std.specs.Prelude.{ℕ}
use Rattle.refusals.specs.declared.Refusal.{Refusal}
use Rattle.refusals.specs.declared.Refusal.TheVariants.{SourceTooLong, WindowFull, TooManyBookmarks, NotLive, EventsFull, NothingOpen, NoSpan, Unbalanced, NotSettled, PastTheEnd, TooDeep, NoRoom, NotAsOpened}

abbrev pub number_of : Refusal → ℕ
number_of SourceTooLong = 1
number_of WindowFull = 2
number_of TooManyBookmarks = 3
number_of NotLive = 4
number_of EventsFull = 5
number_of NothingOpen = 6
number_of NoSpan = 7
number_of Unbalanced = 8
number_of NotSettled = 9
number_of PastTheEnd = 10
number_of TooDeep = 11
number_of NoRoom = 15
number_of NotAsOpened = 24
