-- A row of the image: of OAM or of the page from FF80 on.
use Rattle.memory.proofs.Regions.{within}
use Rattle.move_bytes.proofs.RowLaws.{read_own_fits, read_oam, read_high}
use Rattle.std.proofs.Common.{◌≡◌, ◌≤◌, ℕ, ◌⊎◌, inl, inr, refl, arith, ⊎_elim}
use Rattle.memory.specs.Region.{region_of}
use Rattle.memory.specs.declared.region.Region.TheVariants.{Oam}
use Rattle.move_bytes.proofs.rows.take_own.Goals as goal

at_least : {source : ℕ} → (region_of source ≡ Oam) ⊎ (0xFF80 ≤ source) → 0xFE00 ≤ source
at_least (inl e) = (within _ e).0
at_least (inr h) = omega (arith, h)

pub overflow_sub-source : goal.overflow_sub-source
overflow_sub-source c = at_least c.requires.1.1

pub take-requires : goal.take-requires
take-requires c = read_own_fits c.requires.0 _ _ c.requires.1.0 refl (at_least c.requires.1.1) c.ranges.source.fits

pub returns : goal.returns
returns c =
    ⊎_elim (λ e. read_oam c.requires.0 _ _ c.requires.1.0 refl e c.take.new.out c.take.auto.out c.take.ensures)
    (λ h. read_high c.requires.0 _ _ c.requires.1.0 refl h c.ranges.source.fits c.take.new.out c.take.auto.out c.take.ensures) c.requires.1.1
