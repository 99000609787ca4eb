use Rattle.code_layout.proofs.SmallPrograms.{call_is_closed, call_is_begun}
use Rattle.code_layout.proofs.tests.call_blocks.Goals as goal

pub returns-clause-closed : goal.returns-clause-closed
returns-clause-closed c =
    call_is_closed c.in_ok-first.first c.in_ok-second.second c.in_ok-last.last c.in_ok-called.called c.in_ok-from_array.field-0.items
    c.in_ok-first.ensures c.in_ok-second.ensures c.in_ok-last.ensures c.in_ok-called.ensures c.in_ok-from_array.ensures.items

pub returns-clause-sites : goal.returns-clause-sites
returns-clause-sites c =
    call_is_begun c.in_ok-first.first c.in_ok-second.second c.in_ok-last.last c.in_ok-called.called c.in_ok-from_array.field-0.items
    c.in_ok-first.ensures c.in_ok-second.ensures c.in_ok-last.ensures c.in_ok-called.ensures c.in_ok-from_array.ensures.items
