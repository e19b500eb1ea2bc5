-- No public contract names these: they are of private steps and of proofs.
-- Where the text of a reply stands.
use Rattle.std.specs.Prelude.{ℕ, List, option_map, unwrap_or}
use Rattle.mt_lines.specs.declared.given_text.GivenText.{GivenText}

-- a text in memory of its own, or else in the room
abbrev pub text_in : GivenText → List ℕ → List ℕ
text_in text room = unwrap_or (option_map (λ own. own.items) text.own) room
