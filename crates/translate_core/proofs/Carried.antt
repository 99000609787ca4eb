-- An image that is laid out of passed blocks carries its input.
use Rattle.std.proofs.Common.{ℕ, false, List, refl}
use Rattle.order_models.specs.Consistent.{Consistent}
use Rattle.order_models.specs.Orders.{Arm}
use Rattle.x64_syntax.specs.declared.slots.Slot.{Slot}
use Rattle.code_at.specs.Code.{program_in}
use Rattle.cfg_walk.specs.declared.code.Code.{Code}
use Rattle.fence_place.specs.Marked.{marked}
use Rattle.a64_code.specs.declared.instr.XReg.{XReg}
use Rattle.a64_block.specs.declared.block.ABlock.{ABlock}
use Rattle.carry_spec.specs.Carries.{IsImageOf, DoesAsInput}
use Rattle.carry_spec.specs.Faults.{HasNoFault}
use Rattle.translate_core.specs.Translated.{IsCarried}
use Rattle.translate_core.proofs.Accounted.{Facts, accounts, explanation}
use Rattle.translate_core.proofs.Allowed.{run_permitted}
use Rattle.translate_core.proofs.EachThread.{IsLaid, each_planned, each_forward}
use Rattle.fence_plan.proofs.CallerLemmas.{bare}

module _ (private : List Slot) (input image : List ℕ) (code : Code) (address : ℕ) (words : List ℕ) (blocks : List (ABlock XReg))
    (laid : IsLaid private input image code address words blocks) (of : IsImageOf input image address words) where
  facts : Facts (marked private) input image code address words
  facts = record {
    parts = of.segments;
    count = of.threads;
    layouts = of.layouts;
    planned = each_planned private input image code address words blocks laid;
    permitted = λ may s items end n run. run_permitted (program_in input) code laid.is_code may run;
  }

  -- the image does what the input's code does
  pub does_as_input : DoesAsInput (marked private) (Consistent Arm false) 256 input image code address words
  does_as_input = record {
    backward = λ stacks fits k from to stack at_from at_to at_stack made end n run.
        let one = each_planned private input image code address words blocks laid stacks fits k from to stack at_from at_to at_stack made end n run in
        (bare one.0, one.1, one.2, one.3);
    forward = each_forward private input image code address words blocks laid;
    explanations = λ x is. explanation (marked private) input image code address words facts x is;
    explained = λ x y is form order explains tame. accounts (marked private) input image code address words facts x y is explains form tame order;
  }

  -- and so it carries the input, by this code and these words
  pub carried : HasNoFault input → IsCarried (marked private) input image code address words
  carried none = record {
    carries = record {
      no_fault = none;
      code = code;
      is_code = laid.is_code;
      code_address = address;
      words = words;
      is_image = of;
      does = does_as_input;
    };
    same_code = refl;
    same_address = refl;
    same_words = refl;
  }
