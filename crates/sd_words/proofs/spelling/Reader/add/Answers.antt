use Rattle.std.proofs.Common.{◌≡◌, ◌∙◌, [], ◌∷◌, ◌++◌, true, false, refl, sym, rules}
use Rattle.sd_words.specs.Reading.{is_taken}
use Rattle.sd_words.proofs.SeenNamesMatch.{seen-more, taken-fails, taken-seen}
use Rattle.sd_words.proofs.ReadingGivesSettings.{free, pair, with_setting-of}
use Rattle.sd_words.proofs.spelling.Reader.add.Goals as goal

pub returns-then-is_taken : goal.returns-then-is_taken
returns-then-is_taken c = λ p v sees.
    let test : c.is_taken.result ≡ true = search rules in
    let taken : is_taken c.args.name.now p.settings ≡ true = sym (taken-seen c.args.self.now.names.items p.settings c.args.name.now sees.0) ∙ search rules in
    rw c.from.ensures (taken-fails p c.args.name.now v taken)

pub returns : goal.returns
returns c = λ p v sees.
    let free_name : is_taken c.args.name.now p.settings ≡ false = sym (taken-seen c.args.self.now.names.items p.settings c.args.name.now sees.0) ∙ search rules in (
      free (p.settings ++ pair c.args.name.now v ∷ []),
      with_setting-of p c.args.name.now v free_name,
      (seen-more c.args.self.now.names.items _ p.settings c.args.name v sees.0 c.in_ok-push.ensures.items, refl),
    )
