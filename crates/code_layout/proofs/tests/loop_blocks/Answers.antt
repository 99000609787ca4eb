use Rattle.code_layout.proofs.SmallPrograms.{loop_is_closed}
use Rattle.code_layout.proofs.tests.loop_blocks.Goals as goal

pub returns-clause-closed : goal.returns-clause-closed
returns-clause-closed c =
    loop_is_closed c.in_ok-before.before c.in_ok-again.again c.in_ok-behind.behind c.in_ok-from_array.field-0.items
    c.in_ok-before.ensures c.in_ok-again.ensures c.in_ok-behind.ensures c.in_ok-from_array.ensures.items
