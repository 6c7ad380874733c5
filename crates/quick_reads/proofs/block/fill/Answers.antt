-- The invariant: so many bytes are those that the reads give.
use Rattle.std.proofs.Common.{◌≡◌, ℕ, ◌+◌, ◌%◌, ◌<◌, length, refl, ◌∙◌, arith, length-set, rules}
use Rattle.image.specs.Load.{load_call}
use Rattle.memory.specs.World.{fixed}
use Rattle.mmu.specs.Access.{read_byte}
use Rattle.quick_reads.proofs.BlockLaws.{listed_none, listed_more, listed_all}
use Rattle.quick_reads.proofs.block.fill.Goals as goal

pub loop-place-init : goal.loop-place-init
loop-place-init c = let A = c.args in
    let g : ℕ → ℕ = (λ (k : ℕ). read_byte (fixed A.rom.now A.sound.now) (load_call A.image.now).state A.vram.now A.wram.now A.save.now ((A.index + k) % 65536)) in
    (refl, (search rules, listed_none A.out.now g))

pub loop-place-preserved : goal.loop-place-preserved
loop-place-preserved c = let A = c.args in
    let L = c.loop-place in
    let g : ℕ → ℕ = (λ (k : ℕ). read_byte (fixed A.rom.now A.sound.now) (load_call A.image.now).state A.vram.now A.wram.now A.save.now ((A.index + k) % 65536)) in
    let h : L.place-index < length L.out = omega arith in
    let a : L.at ≡ (A.index + L.place-index) % 65536 = L.invariant.1.0 in
    let e = c.byte_at.ensures in
    (length-set L.out L.place-index _ ∙ L.invariant.0, (omega arith, listed_more L.out g L.place-index _ h L.invariant.1.1 (rw a at e)))

pub returns : goal.returns
returns c = let A = c.args in
    let L = c.loop-place in
    let g : ℕ → ℕ = (λ (k : ℕ). read_byte (fixed A.rom.now A.sound.now) (load_call A.image.now).state A.vram.now A.wram.now A.save.now ((A.index + k) % 65536)) in
    listed_all L.out g L.place-index (length A.out.now) L.invariant.0 (omega arith) (omega arith) L.invariant.1.1
