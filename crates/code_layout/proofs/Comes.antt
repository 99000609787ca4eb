-- Where a machine comes to by few steps that show nothing.
use Rattle.std.proofs.Common.{◌≡◌, ℕ, suc, ◌+◌, ◌<◌, ◌≤◌, sym, subst, arith}
use Rattle.behavior.specs.Tree.{Tree, Gives, Begins, Next, Goes, ticks}
use Rattle.behavior.specs.Acts.{goes}
use Rattle.behavior.specs.Unfolds.{Unfolds, block-ends, block-goes, block-begins, block-acts}

module _ {T : Type 0} (step : T → Tree (Next T)) where
  -- what unfolds into a block that unfolds further
  pub unfolds_on : {t u v : Tree (Next T)} → Unfolds step t u → Unfolds step u v → Unfolds step t v
  unfolds_on block-ends more = more
  unfolds_on (block-goes one) more = block-goes (unfolds_on one more)
  unfolds_on (block-begins one) (block-begins more) = block-begins (unfolds_on one more)
  unfolds_on (block-acts one) (block-acts more) = block-acts (λ v lt. unfolds_on (one v lt) (more v lt))

  -- the step of a state unfolds into what it goes on by
  pub unfolds_begun : {t : T} {u : Tree (Next T)} → Unfolds step (Gives (Goes t)) (Begins u) → Unfolds step (step t) (Begins u)
  unfolds_begun (block-goes one) = one

  -- From a state the machine comes, by at least one and at most so many instructions, to a next one of which P holds.
  pub record Comes (most : ℕ) (t : T) (P : Next T → Type 0) : Type 0 where
    pub before : ℕ
    pub to : Next T
    pub few : before < most
    pub unfolds : Unfolds step (step t) (ticks (suc before) (Gives to))
    pub there : P to

  -- by one instruction
  pub comes_last : {P : Next T → Type 0} (t : T) (next : Next T) → step t ≡ Begins (Gives next) → P next → Comes 1 t P
  comes_last t next takes there = record {
    before = 0;
    to = next;
    few = omega arith;
    unfolds = subst (λ u. Unfolds step u (Begins (Gives next))) (sym takes) (block-begins block-ends);
    there = there;
  }

  -- by one, and then others
  pub comes_more : {P : Next T → Type 0} {most : ℕ} (t u : T) → step t ≡ Begins (goes u) → Comes most u P → Comes (1 + most) t P
  comes_more t u takes later = record {
    before = suc later.before;
    to = later.to;
    few = omega (arith, later.few);
    unfolds = subst (λ v. Unfolds step v (ticks (suc (suc later.before)) (Gives later.to))) (sym takes) (block-begins (block-goes later.unfolds));
    there = later.there;
  }

  -- by at most more, to what is said with less
  pub comes_wider : {P Q : Next T → Type 0} {few : ℕ} (most : ℕ) (t : T) → few ≤ most → ((next : Next T) → P next → Q next) → Comes few t P → Comes most t Q
  comes_wider most t le wider one = record { before = one.before; to = one.to; few = omega (arith, le, one.few); unfolds = one.unfolds; there = wider one.to one.there }
