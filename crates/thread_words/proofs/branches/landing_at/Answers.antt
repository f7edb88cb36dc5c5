use Rattle.std.proofs.Common.{◌≡◌, ◌∙◌, Option, sym, subst}
use Rattle.wasm_types.specs.declared.instruction.Instr.{Instr}
use Rattle.wasm_types.specs.declared.instruction.Instr.TheVariants as instr
use Rattle.wasm_types.specs.declared.instruction.BlockKind.{BlockKind}
use Rattle.wasm_types.specs.declared.value.ValType.{ValType}
use Rattle.thread_words.specs.Leaving.{BlockAt, LandsBy}
use Rattle.thread_words.proofs.FunctionCode.{block_there}
use Rattle.thread_words.proofs.branches.landing_at.Goals as goal

same_kind : (k l : BlockKind) (t u : Option ValType) → ◌≡◌ {A = Instr} (instr.Block l u) (instr.Block k t) → l ≡ k
same_kind k l t u h = cc

same_type : (k l : BlockKind) (t u : Option ValType) → ◌≡◌ {A = Instr} (instr.Block l u) (instr.Block k t) → u ≡ t
same_type k l t u h = cc

pub instruction_in-requires : goal.instruction_in-requires
instruction_in-requires c =
    let k = c.requires in
    let b = k.3 in
    (instr.Block b.0 b.1, b.2.0, block_there k.0 k.1 c.args.opener b.0 b.1 b.2.0 c.args.code.now c.args.targets.now k.2 b.2.1)

pub land-requires : goal.land-requires
land-requires c =
    let k = c.requires in
    let b = k.3 in
    let e = sym c.in-Block.is ∙ c.instruction_in.ensures (instr.Block b.0 b.1) b.2.0 (block_there k.0 k.1 c.args.opener b.0 b.1 b.2.0 c.args.code.now c.args.targets.now k.2 b.2.1) in
    let f = same_kind b.0 c.in-Block.kind b.1 c.in-Block.t e in
    let g = same_type b.0 c.in-Block.kind b.1 c.in-Block.t e in
    (k.0, k.1, k.2.its_targets, (b.2.0, subst (λ y. BlockAt k.0 k.1 c.args.opener c.in-Block.kind y b.2.0) (sym g) (subst (λ y. BlockAt k.0 k.1 c.args.opener y b.1 b.2.0) (sym f) b.2.1)))

pub unreachable-requires : goal.unreachable-requires
unreachable-requires c =
    let k = c.requires in
    let b = k.3 in
    let e = c.instruction_in.ensures (instr.Block b.0 b.1) b.2.0 (block_there k.0 k.1 c.args.opener b.0 b.1 b.2.0 c.args.code.now c.args.targets.now k.2 b.2.1) in
    c.in_default.not-Block b.0 b.1 e

pub returns : goal.returns
returns c = λ m function w kind t is b.
    let e = sym c.in-Block.is ∙ c.instruction_in.ensures (instr.Block kind t) is (block_there m function c.args.opener kind t is c.args.code.now c.args.targets.now w b) in
    let f = same_kind kind c.in-Block.kind t c.in-Block.t e in
    let g = same_type kind c.in-Block.kind t c.in-Block.t e in
    subst (λ y. LandsBy c.args.opener kind y is c.land.result) g (subst (λ y. LandsBy c.args.opener y c.in-Block.t is c.land.result) f
    (c.land.ensures m function w.its_targets is (subst (λ y. BlockAt m function c.args.opener c.in-Block.kind y is) (sym g) (subst (λ y. BlockAt m function c.args.opener y t is) (sym f) b))))
