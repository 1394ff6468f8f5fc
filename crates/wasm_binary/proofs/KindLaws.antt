-- Value types are the same kind where they are equal.
use Rattle.std.proofs.Common.{◌≡◌, true, refl}
use Rattle.wasm_ast.specs.declared.types.ValType.{ValType}
use Rattle.wasm_ast.specs.declared.types.ValType.TheVariants.{I32, I64, FuncRef, ExternRef}
use Rattle.wasm_binary.specs.Locals.{same_kind}

pub same_kind_is : (a b : ValType) → same_kind a b ≡ true → a ≡ b
same_kind_is I32 I32 e = refl
same_kind_is I64 I64 e = refl
same_kind_is FuncRef FuncRef e = refl
same_kind_is ExternRef ExternRef e = refl
same_kind_is a b e = absurd cc

pub same_kind_self : (k : ValType) → same_kind k k ≡ true
same_kind_self I32 = refl
same_kind_self I64 = refl
same_kind_self FuncRef = refl
same_kind_self ExternRef = refl
