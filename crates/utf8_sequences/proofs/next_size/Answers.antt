use Rattle.utf8_sequences.proofs.next_size.Goals as goal

pub returns-then-quick-gt0 : goal.returns-then-quick-gt0
returns-then-quick-gt0 c = c.quick_size-quick.ensures c.if-quick-gt0.true
