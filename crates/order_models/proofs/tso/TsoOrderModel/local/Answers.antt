use Rattle.order_models.proofs.LocalLemmas.{local_of}
use Rattle.order_models.proofs.DoorLemmas.{local_admitted}
use Rattle.order_models.specs.Doors.{tso_doors}
use Rattle.order_models.specs.Orders.{Tso, tso_kinds}
use Rattle.order_models.specs.OwnDoors.{are_tso_doors}
use Rattle.order_models.specs.OwnKinds.{all_tso_kinds}
use Rattle.order_models.proofs.tso.TsoOrderModel.local.Goals as goal

pub returns : goal.returns
returns c =
    let found = c.in_ok-pair_at.ensures in
    let first = local_of Tso tso_kinds _ _ _ _ _ _ _ _ c.as_slice.ensures found.some found.between c.tso_kind.ensures in
    record { first = first; admitted = local_admitted Tso tso_kinds tso_doors are_tso_doors all_tso_kinds c.args.items.now c.args.i c.args.j c.tso_kind.result first }
