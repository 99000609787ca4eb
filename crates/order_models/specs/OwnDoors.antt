-- Each order's doors admit what it keeps, and nothing else.
use Rattle.std.proofs.Common.{◌≡◌, ◌<◌, ℕ, List, Option, Some, None, IsSomeAnd, ◌⊎◌, inl, inr, refl}
use Rattle.ev_graph.specs.declared.events.AccessKind.{AccessKind}
use Rattle.ev_graph.specs.declared.events.AccessKind.TheVariants.{Read, Write}
use Rattle.ev_graph.specs.declared.events.Item.{Item}
use Rattle.ev_graph.specs.Events.{Event, IsRead, IsWrite, ReadAt, WriteAt, events}
use Rattle.std.specs.List.{slice_get}
use Rattle.order_models.specs.declared.edge.EdgeKind.{EdgeKind}
use Rattle.order_models.specs.declared.edge.EdgeKind.TheVariants as edge
use Rattle.order_models.specs.Orders.{Tso, Limm, Arm}
use Rattle.order_models.specs.Doors.{AreDoorsOf, IsAccessAt, IsAdmittedFor, tso_doors, limm_doors, arm_doors}

reads_or_writes : (kind : AccessKind) → (kind ≡ Read) ⊎ (kind ≡ Write)
reads_or_writes Read = inl refl
reads_or_writes Write = inr refl

read_or_write : (found : Option Event) → IsSomeAnd found (λ a. Unit {0}) → IsSomeAnd found IsRead ⊎ IsSomeAnd found IsWrite
read_or_write None here = absurd here
read_or_write (Some a) here = reads_or_writes a.kind

-- a write behind a write, or anything behind a read
ppo_admitted : (items : List Item) (m n : ℕ) → m < n → IsAccessAt items n → WriteAt items n → ReadAt items m ⊎ WriteAt items m → IsAdmittedFor tso_doors edge.Ppo items m n
ppo_admitted items m n order there write (inl read) = (_, (0, refl), refl, record { order = order; from = read; to = there; opening = tt })
ppo_admitted items m n order there write (inr first) = (_, (1, refl), refl, record { order = order; from = first; to = write; opening = tt })

tso_each : (kind : EdgeKind) (items : List Item) (m n : ℕ) → m < n → IsAccessAt items m → IsAccessAt items n → Tso kind items m n
    → IsAdmittedFor tso_doors kind items m n
tso_each edge.Ppo items m n order here there (inl read) = (_, (0, refl), refl, record { order = order; from = read; to = there; opening = tt })
tso_each edge.Ppo items m n order here there (inr write) = ppo_admitted items m n order there write (read_or_write (slice_get (events items) m) here)
tso_each edge.Mfence items m n order here there holds = (_, (2, refl), refl, record { order = order; from = here; to = there; opening = holds })
tso_each edge.Implied items m n order here there (inl first) = (_, (3, refl), refl, record { order = order; from = first; to = there; opening = tt })
tso_each edge.Implied items m n order here there (inr second) = (_, (4, refl), refl, record { order = order; from = here; to = second; opening = tt })
tso_each _ items m n order here there holds = absurd holds

pub are_tso_doors : AreDoorsOf Tso tso_doors
are_tso_doors = record {
  kept = (
    λ items m n admits. inl admits.from,
    (
      λ items m n admits. inr admits.to,
      (
        λ items m n admits. admits.opening,
        (λ items m n admits. inl admits.from, (λ items m n admits. inr admits.to, tt)),
      ),
    ),
  );
  each = tso_each;
}

limm_each : (kind : EdgeKind) (items : List Item) (m n : ℕ) → m < n → IsAccessAt items m → IsAccessAt items n → Limm kind items m n
    → IsAdmittedFor limm_doors kind items m n
limm_each edge.Frm items m n order here there holds = (_, (0, refl), refl, record { order = order; from = holds.0; to = there; opening = holds.1 })
limm_each edge.Fww items m n order here there holds = (_, (1, refl), refl, record { order = order; from = holds.0; to = holds.1; opening = holds.2 })
limm_each edge.Fsc items m n order here there holds = (_, (2, refl), refl, record { order = order; from = here; to = there; opening = holds })
limm_each edge.Rmw items m n order here there holds = (_, (3, refl), refl, record { order = order; from = here; to = there; opening = holds })
limm_each _ items m n order here there holds = absurd holds

pub are_limm_doors : AreDoorsOf Limm limm_doors
are_limm_doors = record {
  kept = (
    λ items m n admits. (admits.from, admits.opening),
    (
      λ items m n admits. (admits.from, admits.to, admits.opening),
      (λ items m n admits. admits.opening, (λ items m n admits. admits.opening, tt)),
    ),
  );
  each = limm_each;
}

arm_each : (kind : EdgeKind) (items : List Item) (m n : ℕ) → m < n → IsAccessAt items m → IsAccessAt items n → Arm kind items m n
    → IsAdmittedFor arm_doors kind items m n
arm_each edge.Ld items m n order here there holds = (_, (0, refl), refl, record { order = order; from = holds.0; to = there; opening = holds.1 })
arm_each edge.St items m n order here there holds = (_, (1, refl), refl, record { order = order; from = holds.0; to = holds.1; opening = holds.2 })
arm_each edge.Dmb items m n order here there holds = (_, (2, refl), refl, record { order = order; from = here; to = there; opening = holds })
arm_each edge.Rmw items m n order here there holds = (_, (3, refl), refl, record { order = order; from = here; to = there; opening = holds })
arm_each _ items m n order here there holds = absurd holds

pub are_arm_doors : AreDoorsOf Arm arm_doors
are_arm_doors = record {
  kept = (
    λ items m n admits. (admits.from, admits.opening),
    (
      λ items m n admits. (admits.from, admits.to, admits.opening),
      (λ items m n admits. admits.opening, (λ items m n admits. admits.opening, tt)),
    ),
  );
  each = arm_each;
}
