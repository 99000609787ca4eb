use Rattle.std.proofs.Common.{◌≤◌, ◌^◌, refl, arith}
use Rattle.std.proofs.Math.Nat.{pow-le-pow_right}
use Rattle.arm_replay.proofs.values.fits.Goals as goal

pub returns-in_default : goal.returns-in_default
returns-in_default c =
    let big : 8 ≤ c.args.size = omega arith in
    let bound : 256 ^ 8 ≤ 256 ^ c.args.size = pow-le-pow_right (omega arith) big in
    ((λ always. omega arith), (λ below. refl))
