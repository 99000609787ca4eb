-- Each answer is the one that the reading calls for.
use Rattle.std.proofs.Common.{Ok, take, sym, ◌∙◌}
use Rattle.x64_decode.specs.Spelling.{Answers}
use Rattle.x64_decode.proofs.AnswerLemmas.{answers-cut, answers-done, answers-too_long, answers-unknown, bytes_of_slice}
use Rattle.x64_decode.proofs.CallerLemmas.{answer-length, spelling-formed}
use Rattle.x64_decode.proofs.decode.answer.Goals as goal

pub returns-in-Done : goal.returns-in-Done
returns-in-Done c =
    let bytes = c.args.bytes.now in
    let exact : Answers bytes (Ok (c.in-Done.instr, c.in-Done.length)) =
    answers-done bytes c.in-Done.instr c.in-Done.length (bytes_of_slice bytes c.type_inv.bytes) (sym c.read.ensures.value ∙ c.in-Done.is) in
    record {
      exact = exact;
      length = answer-length bytes c.in-Done.instr c.in-Done.length c.requires exact;
      formed = spelling-formed (take c.in-Done.length bytes) c.in-Done.instr exact.1;
    }

pub returns-then-missing-bytes : goal.returns-then-missing-bytes
returns-then-missing-bytes c =
    record {
      exact = answers-cut c.args.bytes.now c.in-More.missing (bytes_of_slice c.args.bytes.now c.type_inv.bytes) (sym c.read.ensures.value ∙ c.in-More.is) c.if-missing-bytes.true;
      length = tt;
      formed = tt;
    }

pub returns-else-missing-bytes : goal.returns-else-missing-bytes
returns-else-missing-bytes c =
    record {
      exact = answers-too_long c.args.bytes.now c.in-More.missing (bytes_of_slice c.args.bytes.now c.type_inv.bytes) (sym c.read.ensures.value ∙ c.in-More.is) c.if-missing-bytes.false;
      length = tt;
      formed = tt;
    }

pub returns-in-Bad : goal.returns-in-Bad
returns-in-Bad c =
    record { exact = answers-unknown c.args.bytes.now (sym c.read.ensures.value ∙ c.in-Bad.is); length = tt; formed = tt }
