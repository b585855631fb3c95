-- Laws of an answer that may be missing: where something came of it, it had a value.
use Rattle.std.specs.Prelude.{◌≡◌, refl, Option, Some, None}
use Rattle.std.proofs.lemmas.Option.{none-some}
use Rattle.text.specs.Reading.Choice.{on_some}

pub record GaveSome {A B : Type 0} (o : Option B) (f : B → Option A) (y : A) : Type 0 where
  pub value : B
  pub is : o ≡ Some value
  pub gave : f value ≡ Some y

pub some_gave : {A B : Type 0} (o : Option B) (f : B → Option A) {y : A} → on_some o f None ≡ Some y → GaveSome o f y
some_gave (Some x) f e = record { value = x; is = refl; gave = e }
some_gave None f {y} e = absurd (none-some y e)
