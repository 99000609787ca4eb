use Rattle.std.proofs.Common.{inl, inr, refl}
use Rattle.order_models.proofs.LocalLemmas.{never}
use Rattle.order_models.proofs.arm.arm_kind.Goals as goal

pub returns-then-is_read_before : goal.returns-then-is_read_before
returns-then-is_read_before c = λ items m n pair.
    inr (
      never _ (c.is_locked_pair.ensures items m n pair) c.if-is_locked_pair.false,
      inr (
        never _ (c.has_fence.ensures items m n pair) c.if-has_fence.false,
        inl ((c.is_read_before.ensures items m n pair).0 c.if-is_read_before.true, refl),
      ),
    )

pub returns-then-are_writes_around : goal.returns-then-are_writes_around
returns-then-are_writes_around c = λ items m n pair.
    inr (
      never _ (c.is_locked_pair.ensures items m n pair) c.if-is_locked_pair.false,
      inr (
        never _ (c.has_fence.ensures items m n pair) c.if-has_fence.false,
        inr (
          never _ (c.is_read_before.ensures items m n pair) c.if-is_read_before.false,
          inl ((c.are_writes_around.ensures items m n pair).0 c.if-are_writes_around.true, refl),
        ),
      ),
    )
