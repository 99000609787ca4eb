use Rattle.order_models.proofs.LocalLemmas.{local_of}
use Rattle.order_models.proofs.DoorLemmas.{local_admitted}
use Rattle.order_models.specs.Doors.{limm_doors}
use Rattle.order_models.specs.Orders.{Limm, limm_kinds}
use Rattle.order_models.specs.OwnDoors.{are_limm_doors}
use Rattle.order_models.specs.OwnKinds.{all_limm_kinds}
use Rattle.order_models.proofs.limm.LimmOrderModel.local.Goals as goal

pub returns : goal.returns
returns c =
    let found = c.in_ok-pair_at.ensures in
    let first = local_of Limm limm_kinds _ _ _ _ _ _ _ _ c.as_slice.ensures found.some found.between c.limm_kind.ensures in
    record { first = first; admitted = local_admitted Limm limm_kinds limm_doors are_limm_doors all_limm_kinds c.args.items.now c.args.i c.args.j c.limm_kind.result first }
