use Rattle.std.proofs.Common.{◌≡◌, Bool, true, false, Some, None, cond, IsUtf8, refl, sym, ap, ◌∙◌, rules}
use Rattle.std.specs.Str.{is_utf8}
use Rattle.std.proofs.lemmas.Str.{is_utf8-from_IsUtf8, IsUtf8-from_is_utf8}
use Rattle.percent_encoding.specs.Percent.{percent_decode}
use Rattle.escapes.proofs.spelled.decoded.Goals as goal

pub returns-in_ok-of-in-Ok : goal.returns-in_ok-of-in-Ok
returns-in_ok-of-in-Ok c =
    let bytes : c.in_ok-of-in-Ok.field-0 ≡ percent_decode c.args.text.now = search rules in
    let valid : IsUtf8 (percent_decode c.args.text.now) = search rules in
    rw (is_utf8-from_IsUtf8 _ valid) (ap Some bytes)

pub returns-in-Err-Utf8 : goal.returns-in-Err-Utf8
returns-in-Err-Utf8 c = go (is_utf8 (percent_decode c.args.text.now)) refl
  where
    go : (b : Bool) → is_utf8 (percent_decode c.args.text.now) ≡ b → None ≡ cond b (Some (percent_decode c.args.text.now)) None
    go false e = refl
    go true e =
        let valid : IsUtf8 (percent_decode c.args.text.now) = IsUtf8-from_is_utf8 _ e in
        absurd (search rules)
