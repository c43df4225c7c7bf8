use Rattle.std.proofs.Common.{arith}
use Rattle.char_string_white_space.proofs.WhiteSpace.{low, high, controls, spaces, separators, below, behind_controls, behind_spaces, behind_separators, above}
use Rattle.char_string_white_space.proofs.is_trimmed.Goals as goal

pub returns-then-x-gt12288 : goal.returns-then-x-gt12288
returns-then-x-gt12288 c = above _ c.if-x-gt12288.true

pub returns-in-32 : goal.returns-in-32
returns-in-32 c = low _ c.in-32.is

pub returns-in-9-to-13 : goal.returns-in-9-to-13
returns-in-9-to-13 c = controls _ (omega arith) (omega arith)

pub returns-in-8192-to-8202 : goal.returns-in-8192-to-8202
returns-in-8192-to-8202 c = spaces _ (omega arith) (omega arith)

pub returns-in_default : goal.returns-in_default
returns-in_default c = below _ (assumption c) (assumption c) (omega arith)

pub returns-in_default-2 : goal.returns-in_default-2
returns-in_default-2 c = behind_controls _ (assumption c) (assumption c) (omega arith) (omega arith)

pub returns-in_default-3 : goal.returns-in_default-3
returns-in_default-3 c = behind_spaces _ (assumption c) (assumption c) (omega arith) (omega arith)

pub returns-in_default-4 : goal.returns-in_default-4
returns-in_default-4 c = behind_separators _ (assumption c) (assumption c) (omega arith)

pub returns-in-8232 : goal.returns-in-8232
returns-in-8232 c = high _ c.in-8232.is

pub returns-in-8232-2 : goal.returns-in-8232-2
returns-in-8232-2 c = separators _ (omega arith) (omega arith)
