-- A choice by a test, and an answer that may be missing taken apart: its value goes on, and where there is none, it ends.
use Rattle.std.specs.Prelude.{Bool, true, false, Option, Some, None}

abbrev pub pick : {A : Type 0} → Bool → A → A → A
pick true a b = a
pick false a b = b

abbrev pub on_some : {A B : Type 0} → Option B → (B → A) → A → A
on_some (Some x) f e = f x
on_some None f e = e
