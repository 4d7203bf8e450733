mod FigureLemmas
mod LineLemmas
mod PrintLemmas
