use Rattle.a64_table.proofs.acts.calls.Goals as goal

pub returns-in-1 : goal.returns-in-1
returns-in-1 c = λ read. rw c.in-1.is (c.takes_in.ensures read)

pub returns-in-2 : goal.returns-in-2
returns-in-2 c = λ read. rw c.in-2.is (c.puts_out.ensures read c.args.input)
