use Rattle.alu_width.proofs.LiftLemmas.{over_mul-is, over_imul-is}
use Rattle.alu_width.proofs.products.products_over.Goals as goal

pub returns : goal.returns
returns c = λ W a b w p q. record { plain = over_mul-is W a b w; with_sign = over_imul-is W a b w p q }
