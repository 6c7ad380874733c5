-- A number that names a value, as `ok_or` gives it: what the answer shows of the name.
use Rattle.std.proofs.Common.{◌≡◌, refl, Option, Some, None, Ok, Err}
use Rattle.std.specs.Option.{ok_or}

pub name_of_ok : {T E : Type 0} (o : Option T) (e : E) {x : T} → Ok x ≡ ok_or o e → o ≡ Some x
name_of_ok None e h = cc
name_of_ok (Some y) e h = cc

pub none_of_err : {T E : Type 0} (o : Option T) (e : E) {d : E} → Err d ≡ ok_or o e → o ≡ None
none_of_err None e h = refl
none_of_err (Some y) e h = cc
