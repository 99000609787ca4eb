use Rattle.gen_input.proofs.made.make.Goals as goal

pub returns : goal.returns
returns c = record { bytes = rw (c.deref.ensures.value, c.in_ok-code.ensures.code, c.in_ok-thread.ensures, c.in_ok-thread-2.ensures) at c.build.ensures.bytes }
