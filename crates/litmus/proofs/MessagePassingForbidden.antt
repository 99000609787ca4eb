-- Message passing is forbidden where the two writes and the two reads keep their order.
use Rattle.std.proofs.Common.{◌≡◌, ℕ, true, false, List, [], ◌∷◌, inl, inr, Option, Some, None, refl, arith}
use Rattle.ev_graph.specs.declared.execution.Source.TheVariants.{Start}
use Rattle.ev_graph.specs.declared.events.FenceKind.{FenceKind}
use Rattle.ev_graph.specs.declared.events.FenceKind.TheVariants as fence
use Rattle.ev_graph.specs.declared.events.Access.{Access}
use Rattle.ev_graph.specs.Events.{Event, event, FenceBetween}
use Rattle.ev_graph.specs.Pairs.{Po, Rf, Fr}
use Rattle.order_models.specs.declared.edge.EdgeKind.TheVariants as edge
use Rattle.order_models.specs.Orders.{Tso, Arm}
use Rattle.order_models.specs.Consistent.{Local, Consistent}
use Rattle.litmus.specs.MessagePassing.{write_data, write_flag, read_flag, read_data, items_around, flag_entry}
use Rattle.litmus.specs.MessagePassing.{data_entry, message_passing}

-- the write of the data stands before that of the flag
writes_in_order : Po (event write_data) (event write_flag)
writes_in_order = record { thread = refl; order = omega arith }

-- the read of the flag stands before that of the data
reads_in_order : Po (event read_flag) (event read_data)
reads_in_order = record { thread = refl; order = omega arith }

-- the read of the flag finds the write of the flag
flag_found : (between_writes between_reads : Option FenceKind)
    → Rf (message_passing between_writes between_reads).rf (event write_flag) (event read_flag)
flag_found between_writes between_reads = record {
  k = 0;
  source = record { entry = flag_entry; listed = (0, refl); read = refl; byte = refl };
}

-- the read of the data finds the start, which the write of the data overwrites
data_missed : (between_writes between_reads : Option FenceKind)
    → Fr (message_passing between_writes between_reads).rf (message_passing between_writes between_reads).co
    (event read_data) (event write_data)
data_missed between_writes between_reads = record {
  read = refl;
  write = refl;
  k = 0;
  within = omega arith;
  covers = (omega arith, omega arith);
  source = Start;
  from = record { entry = data_entry; listed = (1, refl); read = refl; byte = refl };
  later = tt;
}

-- thread 0 is not thread 1
zero_one : ◌≡◌ {A = ℕ} 0 1 → ⊥
zero_one same = omega arith

-- thread 1 is not thread 0
one_zero : ◌≡◌ {A = ℕ} 1 0 → ⊥
one_zero same = omega arith

-- the events of the cycle after the write of the data
abbrev rest : List Event
rest = event write_flag ∷ event read_flag ∷ event read_data ∷ []

-- the cycle of four under x86-TSO: write of the data, write of the flag, read of the flag, read of the data
pub tso_forbids : Consistent Tso true (message_passing None None) → ⊥
tso_forbids consistent = consistent.external (event write_data) rest (
  record { first = refl; second = refl; pair = (edge.Ppo, record { po = writes_in_order; holds = inr refl }) },
  (
    record { first = refl; second = refl; pair = (edge.Rfe, (zero_one, flag_found None None)) },
    (
      record { first = refl; second = refl; pair = (edge.Ppo, record { po = reads_in_order; holds = inl refl }) },
      record { first = refl; second = refl; pair = (edge.Fre, (one_zero, data_missed None None)) },
    ),
  ),
)

-- the fence of a thread stands between its two accesses
fence_stands : (first second : Access) (kind : FenceKind)
    → FenceBetween kind (items_around first second (Some kind)) 0 1
fence_stands first second kind = record {
  place = 1;
  fence = record { kind = kind; place = 2 };
  here = refl;
  same = refl;
  behind = omega arith;
  ahead = omega arith;
}

-- the same cycle on Armv8, where a DMB ISHST keeps the writes and a DMB ISHLD the reads in order
pub arm_forbids : Consistent Arm false (message_passing (Some fence.DmbSt) (Some fence.DmbLd)) → ⊥
arm_forbids consistent =
    let store = Some fence.DmbSt in
    let load = Some fence.DmbLd in
    let threads = (message_passing store load).threads in
    let writes : Local Arm threads edge.St (event write_data) (event write_flag) =
    record { po = writes_in_order; holds = (refl, refl, fence_stands write_data write_flag fence.DmbSt) } in
    let reads : Local Arm threads edge.Ld (event read_flag) (event read_data) =
    record { po = reads_in_order; holds = (refl, fence_stands read_flag read_data fence.DmbLd) } in
    consistent.external (event write_data) rest (
      record { first = refl; second = refl; pair = (edge.St, writes) },
      (
        record { first = refl; second = refl; pair = (edge.Rfe, (zero_one, flag_found store load)) },
        (
          record { first = refl; second = refl; pair = (edge.Ld, reads) },
          record { first = refl; second = refl; pair = (edge.Fre, (one_zero, data_missed store load)) },
        ),
      ),
    )
