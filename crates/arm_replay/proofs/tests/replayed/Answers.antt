use Rattle.exec_text.proofs.CallerLemmas.{text_has_threads}
use Rattle.arm_replay.proofs.tests.replayed.Goals as goal

pub replay-requires-clause-file : goal.replay-requires-clause-file
replay-requires-clause-file c = (text_has_threads c.as_bytes.result.now c.in_ok-file.file c.in_ok-file.ensures.says).0
