-- Which modules can be run.
use Rattle.wasm_ast.specs.declared.modules.Module.{Module}
use Rattle.wasm_image.specs.Hosts.{AreLinked}
use Rattle.wasm_image.specs.Sizes.{FitsSizes}

-- each import is a host function, and no size is too large
pub record IsReady (m : Module) : Type 0 where
  pub linked : AreLinked m
  pub fits : FitsSizes m
