use Rattle.std.proofs.Common.{inl, inr, refl}
use Rattle.order_models.proofs.LocalLemmas.{never}
use Rattle.order_models.proofs.limm.limm_kind.Goals as goal

pub returns-then-has_fence : goal.returns-then-has_fence
returns-then-has_fence c = λ items m n pair.
    inr (
      never _ (c.is_locked_pair.ensures items m n pair) c.if-is_locked_pair.false,
      inr (
        never _ (c.is_read_before.ensures items m n pair) c.if-is_read_before.false,
        inr (
          never _ (c.are_writes_around.ensures items m n pair) c.if-are_writes_around.false,
          inl ((c.has_fence.ensures items m n pair).0 c.if-has_fence.true, refl),
        ),
      ),
    )
