-- The examples, computed.
use mathlib.Core.Path.{refl}
use Rattle.mbc.specs.Mbc as mbc
use Rattle.memory.specs.Region.{region_of}
use Rattle.promise.specs.Bus.{in_save, in_sound}
use Rattle.promise.specs.Calls.{reaches, sounds}
use Rattle.promise.specs.Admitted.{granted, mapper_after, mappers_after, let_in, let_in_all}
use Rattle.promise.specs.Gate.{ruled, gate_after, admitted_by, ruled_all}
use Rattle.promise.specs.Promise.{Example, WideExample, RoomExample}

pub wide_example : WideExample
unfolding let_in_all let_in mapper_after in_save region_of mbc.start mbc.after5 mbc.enable5 mbc.ram5 mbc.chosen_ram mbc.ram_banks mbc.source mbc.ram_source mbc.ram_len mbc.mapped
wide_example = refl

pub example : Example
unfolding let_in_all let_in mapper_after in_save region_of mbc.start mbc.after2 mbc.enable2 mbc.source mbc.ram_source mbc.ram_len mbc.mapped
example = refl

pub room_example : RoomExample
unfolding admitted_by ruled_all gate_after ruled granted reaches sounds in_sound let_in_all let_in mappers_after mapper_after in_save region_of mbc.start mbc.after2 mbc.enable2 mbc.source mbc.ram_source mbc.ram_len mbc.mapped
room_example = (refl, refl)
