-- 01, "Numbers the host sees": each refusal's number and detail.
use Rattle.std.specs.Prelude.{ℕ}
use Rattle.refusal.specs.declared.Refusal.{Refusal}
use Rattle.refusal.specs.declared.Refusal.TheVariants.{IllFormed, TooManyScalars, NotAScalar, NotADictionary}
use Rattle.refusal.specs.declared.Refusal.TheVariants.{ScratchTooShort, OutputTooShort, WordTooLong, TooFewNodes}
use Rattle.refusal.specs.declared.Refusal.TheVariants.{BadImage, WrongPosition, BitAboveEnd, LimitsTooLarge, FiguresFull}

abbrev pub number_of : Refusal → ℕ
number_of (IllFormed d) = 1
number_of (TooManyScalars d) = 2
number_of (NotAScalar d) = 3
number_of NotADictionary = 4
number_of (ScratchTooShort d) = 5
number_of (OutputTooShort d) = 6
number_of (WordTooLong d) = 7
number_of (TooFewNodes d) = 8
number_of (BadImage d) = 9
number_of (WrongPosition d) = 10
number_of (BitAboveEnd d) = 11
number_of LimitsTooLarge = 12
number_of FiguresFull = 13

abbrev pub detail_of : Refusal → ℕ
detail_of (IllFormed d) = d
detail_of (TooManyScalars d) = d
detail_of (NotAScalar d) = d
detail_of NotADictionary = 0
detail_of (ScratchTooShort d) = d
detail_of (OutputTooShort d) = d
detail_of (WordTooLong d) = d
detail_of (TooFewNodes d) = d
detail_of (BadImage d) = d
detail_of (WrongPosition d) = d
detail_of (BitAboveEnd d) = d
detail_of LimitsTooLarge = 0
detail_of FiguresFull = 0
