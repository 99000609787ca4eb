use Rattle.std.proofs.Common.{◌≡◌, ◌++◌, drop, length}
use Rattle.ev_graph.specs.WellFormed.{all_accesses}
use Rattle.axiom_check.specs.Numbers.{firsts_from}
use Rattle.axiom_check.proofs.events.Events.of.Given as goal

abbrev pub invariant-loop-thread : goal.invariant-loop-thread
invariant-loop-thread l = (l.accesses.items ++ all_accesses (drop l.thread-index l.threads) ≡ all_accesses l.threads)
    × (l.firsts.items ++ firsts_from (length l.accesses.items) (drop l.thread-index l.threads) ≡ firsts_from 0 l.threads)
