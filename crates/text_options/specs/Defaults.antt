-- The options that are the default.
use Rattle.text_options.specs.declared.options.Options.{Options}
use Rattle.text_options.specs.declared.options.Letters.TheVariants.{Lower}
use Rattle.text_options.specs.declared.options.Digits.TheVariants.{OfStyle}
use Rattle.text_options.specs.declared.options.Immediates.TheVariants.{Unsigned}
use Rattle.text_options.specs.declared.options.Commas.TheVariants.{Spaced}
use Rattle.text_options.specs.declared.options.SizeWords.TheVariants.{Always}
use Rattle.text_options.specs.declared.options.RipOperands.TheVariants.{Address}
use Rattle.text_options.specs.declared.options.SymbolPlace.TheVariants.{Behind}
use Rattle.text_options.specs.declared.options.Names.TheVariants.{Manual}
use Rattle.text_options.specs.declared.options.Distances.TheVariants.{Signed}
use Rattle.text_options.specs.declared.options.Absolutes.TheVariants.{Bracketed}
use Rattle.text_options.specs.declared.options.Comments.TheVariants.{Named}

-- today's text, with symbols behind the numbers
abbrev pub default_options : Options
default_options = record {
  letters = Lower;
  digits = OfStyle;
  immediates = Unsigned;
  commas = Spaced;
  size_words = Always;
  operand_column = 0;
  rip_operands = Address;
  symbol_place = Behind;
  names = Manual;
  distances = Signed;
  absolutes = Bracketed;
  comments = Named;
  comment_gap = 2;
}
