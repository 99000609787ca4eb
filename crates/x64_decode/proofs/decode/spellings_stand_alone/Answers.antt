use Rattle.x64_decode.proofs.Law.{spellings_stand_alone}
use Rattle.x64_decode.proofs.decode.spellings_stand_alone.Goals as goal

pub returns : goal.returns
returns c = spellings_stand_alone
