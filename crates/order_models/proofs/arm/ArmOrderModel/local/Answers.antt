use Rattle.order_models.proofs.LocalLemmas.{local_of}
use Rattle.order_models.proofs.DoorLemmas.{local_admitted}
use Rattle.order_models.specs.Doors.{arm_doors}
use Rattle.order_models.specs.Orders.{Arm, arm_kinds}
use Rattle.order_models.specs.OwnDoors.{are_arm_doors}
use Rattle.order_models.specs.OwnKinds.{all_arm_kinds}
use Rattle.order_models.proofs.arm.ArmOrderModel.local.Goals as goal

pub returns : goal.returns
returns c =
    let found = c.in_ok-pair_at.ensures in
    let first = local_of Arm arm_kinds _ _ _ _ _ _ _ _ c.as_slice.ensures found.some found.between c.arm_kind.ensures in
    record { first = first; admitted = local_admitted Arm arm_kinds arm_doors are_arm_doors all_arm_kinds c.args.items.now c.args.i c.args.j c.arm_kind.result first }
